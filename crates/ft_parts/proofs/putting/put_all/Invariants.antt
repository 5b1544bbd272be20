use Rattle.ft_parts.proofs.AtInstances.{Putting}
use Rattle.ft_parts.proofs.putting.put_all.Given as goal

abbrev pub invariant-loop-j : goal.invariant-loop-j
invariant-loop-j l = Putting l.fn.k l.k l.i.pairs l.es l.j l.list
