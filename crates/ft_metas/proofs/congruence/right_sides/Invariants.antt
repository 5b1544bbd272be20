use Rattle.ft_metas.proofs.Sides.{Siding}
use Rattle.ft_metas.proofs.congruence.right_sides.Given as goal

abbrev pub invariant-loop-i : goal.invariant-loop-i
invariant-loop-i l = Siding l.k l.es l.i l.found
