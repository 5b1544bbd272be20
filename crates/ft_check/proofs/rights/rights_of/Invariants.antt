use Rattle.std.proofs.Common.{take}
use Rattle.ft_check.proofs.Started.{RightsSoFar}
use Rattle.ft_check.proofs.rights.rights_of.Given as goal

abbrev pub invariant-loop-k : goal.invariant-loop-k
invariant-loop-k l = RightsSoFar (take l.i l.items.items) l.ps l.es l.k l.used l.items.trees l.list.items
