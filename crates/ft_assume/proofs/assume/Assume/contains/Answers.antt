use Rattle.std.proofs.Common.{rules, ◌≡◌, ◌∙◌, ap}
use Rattle.ft_items.specs.Sets.{has}
use Rattle.ft_assume.specs.Atoms.{atom_of, atoms_of}
use Rattle.ft_assume.proofs.Walks.{has_is_any}
use Rattle.ft_assume.proofs.assume.Assume.contains.Goals as goal

pub returns : goal.returns
returns c =
    let same : c.deref.result.now ≡ c.self.inside.atoms.items = search rules in
    c.is_among.ensures ∙ has_is_any (atom_of c.args.a) c.deref.result.now ∙ ap (λ X. has (atom_of c.args.a) (atoms_of X)) same ∙ ap (has (atom_of c.args.a)) c.self.view_is
