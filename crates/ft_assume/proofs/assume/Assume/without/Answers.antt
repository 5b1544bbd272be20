use Rattle.std.proofs.Common.{rules, ◌≡◌, ◌∙◌, ap, sym, subst}
use Rattle.ft_items.specs.Sets.{without, Ascending}
use Rattle.ft_items.proofs.SetLemmas.{ascending_without}
use Rattle.ft_assume.specs.Atoms.{atom_of, atoms_of}
use Rattle.ft_assume.proofs.Walks.{without_is_filter}
use Rattle.ft_assume.proofs.assume.Assume.without.Goals as goal

pub invariant_of-result : goal.invariant_of-result
invariant_of-result c =
    let same : c.deref.result.now ≡ c.self.inside.atoms.items = search rules in
    let kept : atoms_of c.in_ok-others.field-0.items ≡ without (atom_of c.args.a) (atoms_of c.self.inside.atoms.items) =
    ap atoms_of (c.in_ok-others.ensures) ∙ without_is_filter (atom_of c.args.a) c.deref.result.now ∙ ap (λ X. without (atom_of c.args.a) (atoms_of X)) same in
    subst Ascending (sym kept) (ascending_without (atom_of c.args.a) (atoms_of c.self.inside.atoms.items) c.self.invariant)

pub returns : goal.returns
returns c =
    let same : c.deref.result.now ≡ c.self.inside.atoms.items = search rules in
    ap atoms_of (c.in_ok-others.ensures) ∙ without_is_filter (atom_of c.args.a) c.deref.result.now
    ∙ ap (λ X. without (atom_of c.args.a) (atoms_of X)) same ∙ ap (without (atom_of c.args.a)) c.self.view_is
