use Rattle.ft_placing.proofs.Told.{ListedSoFar}
use Rattle.ft_placing.proofs.telling.arguments_of.Given as goal

abbrev pub invariant-loop-k : goal.invariant-loop-k
invariant-loop-k l = ListedSoFar l.terms l.e l.k l.list.items
