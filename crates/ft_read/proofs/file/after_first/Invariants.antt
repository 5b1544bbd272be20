use Rattle.std.proofs.Common.{length}
use Rattle.ft_read.proofs.Turns.{HasRead}
use Rattle.ft_read.proofs.file.after_first.Given as goal

abbrev pub invariant-reading : goal.invariant-reading
invariant-reading l = HasRead l.bytes l.rest l.terms l.stated.items l.number

abbrev pub decreases-reading : goal.decreases-reading
decreases-reading l = length l.rest
