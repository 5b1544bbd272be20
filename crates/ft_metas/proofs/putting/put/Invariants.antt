use Rattle.ft_metas.proofs.OpenedTerms.{Opened}
use Rattle.ft_metas.proofs.putting.put.Given as goal

abbrev pub invariant-loop-i : goal.invariant-loop-i
invariant-loop-i l = Opened l.fn.k l.k l.terms l.fn.e l.i l.opened
