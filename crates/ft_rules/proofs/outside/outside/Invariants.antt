use Rattle.ft_rules.proofs.Own.{Looking}
use Rattle.ft_rules.proofs.outside.outside.Given as goal

abbrev pub invariant-loop-i : goal.invariant-loop-i
invariant-loop-i l = Looking l.own l.atoms l.i
