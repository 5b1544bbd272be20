use Rattle.ft_placing.proofs.Opened.{OpenedSoFar}
use Rattle.ft_placing.proofs.opening.opened.Given as goal

abbrev pub invariant-loop-k : goal.invariant-loop-k
invariant-loop-k l = OpenedSoFar l.fn.own l.list l.fn.e l.k l.own l.formed
