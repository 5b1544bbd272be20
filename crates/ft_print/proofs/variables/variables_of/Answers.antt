use Rattle.std.proofs.Common.{◌≡◌, ◌∙◌, ap, ℕ, ◌≤◌, Some, slice_get, get_or, length, add-one, arith}
use Rattle.std.proofs.lemmas.Option.{slice_get-get_or}
use Rattle.ft_assume.specs.declared.atom.Atom.TheVariants.{Met}
use Rattle.ft_print.proofs.InOrder.{variable_next, other_next, variables_end}
use Rattle.ft_print.proofs.variables.variables_of.Goals.{in-Var+in_ok-push, in_default}
use Rattle.ft_print.proofs.variables.variables_of.Goals as goal

pub loop-atom-preserved : goal.loop-atom-preserved
loop-atom-preserved c =
    let atoms = c.atoms-atom-items.result.now in
    let i : ℕ = c.loop-atom.atom-index in
    let a = get_or atoms i (Met 0) in
    let g : slice_get atoms i ≡ Some a = slice_get-get_or atoms i (Met 0) c.loop-atom-test.true in
    record {
      atoms = c.loop-atom.invariant.atoms;
      order = c.loop-atom.invariant.order;
      found = rw add-one (elim c.match-atom.branch [
        | in-Var+in_ok-push w ↦ ap (λ v. v.items) w.found-is ∙ w.in_ok-push.ensures.items ∙ variable_next atoms i w.in-Var.v a c.loop-atom.found.items g w.in-Var.is c.loop-atom.invariant.found
        | in_default w ↦ ap (λ v. v.items) w.found-is ∙ other_next atoms i w.in_default.field-0 a c.loop-atom.found.items g w.in_default.is c.loop-atom.invariant.found
      ]);
    }

pub returns-clause-ascending : goal.returns-clause-ascending
returns-clause-ascending c =
    let past : length c.atoms-atom-items.result.now ≤ c.loop-atom.atom-index = omega arith in
    variables_end c.atoms-atom-items.result.now c.args.set.now c.loop-atom.atom-index c.loop-atom.found.items past c.loop-atom.invariant.atoms c.loop-atom.invariant.order c.loop-atom.invariant.found
