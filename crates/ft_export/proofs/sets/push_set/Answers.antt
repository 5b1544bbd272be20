use Rattle.std.proofs.Common.{◌≡◌, ◌<◌, ◌∙◌, ◌++◌, ap, length, get_or, option_map, ℕ, Some, slice_get, codes, add-one, rules, subst}
use Rattle.std.proofs.lemmas.Option.{slice_get-map, slice_get-get_or}
use Rattle.ft_items.specs.Texts.{atom_text}
use Rattle.ft_assume.specs.Atoms.{atom_of}
use Rattle.ft_assume.specs.declared.atom.Atom.{Atom}
use Rattle.ft_assume.specs.declared.atom.Atom.TheVariants.{Met}
use Rattle.ft_export.proofs.Joining.{written_next}
use Rattle.ft_export.proofs.Numbers.{atoms_fit_next}
use Rattle.ft_export.proofs.sets.push_set.Goals as goal

pub loop-i-preserved : goal.loop-i-preserved
loop-i-preserved c =
    let i : ℕ = c.loop-i.i in
    let xs = c.atoms-atoms.result.now in
    let l : i < length xs = search rules in
    let x : Atom = get_or xs i (Met 0) in
    let k : slice_get c.args.set.now i ≡ Some (atom_of x) = subst (λ S. slice_get S i ≡ Some (atom_of x)) c.atoms-atoms.ensures.atoms (slice_get-map atom_of xs i ∙ ap (option_map atom_of) (slice_get-get_or xs i (Met 0) l)) in
    rw add-one (record {
      out = written_next atom_text (codes ",") c.args.set.now i (atom_of x) c.comma_before.result.now (c.args.out.now ++ codes "[") c.loop-i.out c.push_str-in-loop-i.new.self c.push_atom.new.out
          k c.comma_before.ensures.first c.comma_before.ensures.further c.loop-i.invariant.out c.in_ok-push_str-2.ensures.ok c.in_ok-push_atom.ensures.ok;
      fits = atoms_fit_next c.args.set.now i (atom_of x) k c.loop-i.invariant.fits c.push_atom.ensures.fits;
    })
