use Rattle.ft_metas.proofs.Bounding.{Bounding}
use Rattle.ft_metas.proofs.bounds.bounds.Given as goal

abbrev pub invariant-loop-i : goal.invariant-loop-i
invariant-loop-i l = Bounding l.fn.k l.k l.n l.i l.list
