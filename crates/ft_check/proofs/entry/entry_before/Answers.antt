use Rattle.std.proofs.Common.{length}
use Rattle.ft_check.proofs.Standing.{entry_later}
use Rattle.ft_check.proofs.entry.entry_before.Goals as goal

pub returns-then-place-i-clause-below : goal.returns-then-place-i-clause-below
returns-then-place-i-clause-below c = c.entry_of.ensures.below (length c.args.items.now.trees) c.item.ensures.below

pub returns-else-place-i-clause-entry : goal.returns-else-place-i-clause-entry
returns-else-place-i-clause-entry c = entry_later c.args.items.now.items c.args.i c.args.p c.in_ok-place.place c.in_ok-place.ensures.some c.if-place-i.false
