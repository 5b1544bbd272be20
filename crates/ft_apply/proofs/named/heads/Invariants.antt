use Rattle.ft_apply.proofs.Naming.{Heading}
use Rattle.ft_apply.proofs.named.heads.Given as goal

abbrev pub invariant-loop-i : goal.invariant-loop-i
invariant-loop-i l = Heading l.k l.args l.i l.found
