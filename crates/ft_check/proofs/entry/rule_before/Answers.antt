use Rattle.ft_check.proofs.Standing.{line_later}
use Rattle.ft_check.proofs.entry.rule_before.Goals as goal

pub returns-else-place-i : goal.returns-else-place-i
returns-else-place-i c = line_later c.args.items.now.items c.args.i c.args.r c.in_ok-place.place c.in_ok-place.ensures.some c.if-place-i.false
