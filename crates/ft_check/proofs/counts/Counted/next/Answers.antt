use Rattle.ft_stated.specs.Lines.{item_in}
use Rattle.ft_check.proofs.Listed.{counts_next}
use Rattle.ft_check.proofs.counts.Counted.next.Goals as goal

pub returns-clause-counts : goal.returns-clause-counts
returns-clause-counts c =
    let ts = c.args.items.now.trees in
    λ n h. counts_next c.args.items.now.items c.args.i (item_in ts c.item-x.result.now) _ _ _ _ _ _ _ _ c.item_level.result c.item-x.ensures.item c.requires.place n h
    (c.with.ensures.rules ts) (c.with.ensures.entries ts) (c.with.ensures.shown ts) c.with.ensures.level (λ g r. c.item_level.ensures ts g r)
