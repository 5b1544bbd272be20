use Rattle.ft_syntax.proofs.Planting.{Seeking}
use Rattle.ft_syntax.proofs.instance.body_at.Given as goal

abbrev pub invariant-loop-n : goal.invariant-loop-n
invariant-loop-n l = Seeking l.pairs l.m l.k l.n-index
