use Rattle.ft_apply.proofs.Pairing.{Pairing}
use Rattle.ft_apply.proofs.named.instance.Given as goal

abbrev pub invariant-loop-i : goal.invariant-loop-i
invariant-loop-i l = Pairing l.premises l.arguments l.i l.pairs
