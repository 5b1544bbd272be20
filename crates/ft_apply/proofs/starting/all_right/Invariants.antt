use Rattle.ft_apply.proofs.Starts.{Starting}
use Rattle.ft_apply.proofs.starting.all_right.Given as goal

abbrev pub invariant-loop-i : goal.invariant-loop-i
invariant-loop-i l = Starting l.k l.args l.equations l.i l.next l.found
