use Rattle.ft_metas.proofs.Naming.{Joining}
use Rattle.ft_metas.proofs.named.sets.Given as goal

abbrev pub invariant-loop-i : goal.invariant-loop-i
invariant-loop-i l = Joining l.k.items l.args l.i l.set
