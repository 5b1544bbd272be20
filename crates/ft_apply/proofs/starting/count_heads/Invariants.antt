use Rattle.ft_apply.proofs.Starts.{Counting}
use Rattle.ft_apply.proofs.starting.count_heads.Given as goal

abbrev pub invariant-loop-i : goal.invariant-loop-i
invariant-loop-i l = Counting l.k.items l.args l.i l.count
