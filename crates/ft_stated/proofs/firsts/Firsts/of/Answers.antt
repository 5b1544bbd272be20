use Rattle.std.proofs.Common.{rules, ◌≡◌, ◌<◌, ◌≤◌, length, get_or, refl}
use Rattle.ft_stated.proofs.Kept.{firsts_next, firsts_end}
use Rattle.ft_stated.proofs.firsts.Firsts.of.Goals as goal

pub noting-preserved : goal.noting-preserved
noting-preserved c =
    let lt : c.noting.k < length c.args.stated.now = search rules in
    let at : c.index-stated-k.result ≡ get_or c.args.stated.now c.noting.k c.index-stated-k.result = search rules in
    λ ts. firsts_next ts c.args.stated.now c.noting.k c.noting.k c.index-stated-k.result _ _ _ _ _ _ (c.noting.invariant ts) lt at refl
    (c.in_ok-note.ensures.variables ts) (c.in_ok-note.ensures.rules ts) (c.in_ok-note.ensures.greatest ts)

pub returns : goal.returns
returns c =
    let le : length c.args.stated.now ≤ c.noting.k = search rules in
    λ ts. firsts_end ts c.args.stated.now c.noting.k _ _ _ (c.noting.invariant ts) le
