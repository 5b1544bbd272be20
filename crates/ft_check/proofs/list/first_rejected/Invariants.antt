use Rattle.std.proofs.Common.{◌≡◌, take}
use Rattle.ft_items.specs.Good.{counts}
use Rattle.ft_check.specs.Verdicts.{counts_of, IsAtMost}
use Rattle.ft_check.proofs.Listed.{NoneTo}
use Rattle.ft_check.proofs.list.first_rejected.Given as goal

abbrev pub invariant-checking : goal.invariant-checking
invariant-checking l = record { none : NoneTo l.items.items l.i; counted : counts_of l.counted ≡ counts (take l.i l.items.items); few : IsAtMost l.i l.counted }
