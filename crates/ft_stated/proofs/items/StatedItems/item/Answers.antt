use Rattle.std.proofs.Common.{rules, ◌≡◌, ◌<◌, sym, subst, length, get_or}
use Rattle.ft_stated.specs.Lines.{Listing, StatedBelow}
use Rattle.ft_stated.proofs.Indexes.{below_at, place_within}
use Rattle.ft_stated.proofs.items.StatedItems.item.Goals as goal

pub returns-clause-below : goal.returns-clause-below
returns-clause-below c =
    let lt : c.args.i < length c.self.inside.stated.items = place_within c.self.inside.terms c.self.inside.stated.items c.args.i (subst (λ (s : Listing). c.args.i < length s.items) (sym c.self.view_is) c.requires) in
    let at : c.index.result.now ≡ get_or c.self.inside.stated.items c.args.i c.index.result.now = search rules in
    subst (λ (s : Listing). StatedBelow (length s.trees) c.index.result.now) c.self.view_is
    (subst (StatedBelow (length c.self.inside.terms)) (sym at) (below_at _ _ c.args.i _ c.self.invariant.0 lt))
