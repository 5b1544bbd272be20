use Rattle.std.proofs.Common.{rules, ◌≡◌, true, false, sym, ap, ◌∙◌, length, subst}
use Rattle.std.proofs.lemmas.Result.{IfOk-weaker}
use Rattle.ft_theory.specs.Expressions.{instantiate}
use Rattle.ft_syntax.specs.Instances.{instance_in}
use Rattle.ft_check.specs.Comparing.{all_same, ComparedBelow}
use Rattle.ft_check.proofs.Argued.{all_pushed, not_pushed}
use Rattle.ft_check.proofs.conversions.fits_at.Goals as goal

pub returns-then-not-branch : goal.returns-then-not-branch
returns-then-not-branch c =
    let T = c.args.terms.now in
    let J = instantiate (instance_in c.args.put.now.terms c.args.put.now.instance.pairs) in
    let no : c.in_ok-push_entry.field-0 ≡ false = search rules in
    λ h k. not_pushed T J c.in_ok-push_entry.field-0 c.push_entry.new.list.items _ _ (c.in_ok-push_entry.ensures.same T J h k) c.new-list.ensures.items no

pub are_instances-requires-clause-compared : goal.are_instances-requires-clause-compared
are_instances-requires-clause-compared c =
    subst (ComparedBelow (length c.args.terms.now)) (sym c.deref.ensures.value)
    (c.in_ok-push_entry.ensures.below (length c.args.terms.now) (subst (ComparedBelow (length c.args.terms.now)) (sym c.new-list.ensures.items) tt) c.requires.found c.requires.wanted)

pub returns : goal.returns
returns c =
    let T = c.args.terms.now in
    let J = instantiate (instance_in c.args.put.now.terms c.args.put.now.instance.pairs) in
    let yes : c.in_ok-push_entry.field-0 ≡ true = search rules in
    λ h k. IfOk-weaker c.are_instances.result _ _
    (λ b e. all_pushed T J c.in_ok-push_entry.field-0 b c.push_entry.new.list.items _ _ (c.in_ok-push_entry.ensures.same T J h k) c.new-list.ensures.items yes (e ∙ ap (all_same T J) c.deref.ensures.value))
    c.are_instances.ensures.are
