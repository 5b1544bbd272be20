use Rattle.std.proofs.Common.{◌≡◌, drop, map}
use Rattle.ft_items.specs.Sets.{met}
use Rattle.ft_items.specs.Rows.{differ}
use Rattle.ft_check.proofs.sets.differ.Given as goal

abbrev pub invariant-loop-k : goal.invariant-loop-k
invariant-loop-k l = differ (map met l.ms) ≡ differ (map met (drop l.k l.ms))
