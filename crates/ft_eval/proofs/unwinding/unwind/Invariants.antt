use Rattle.ft_eval.proofs.Outwards.{Unwinds}
use Rattle.ft_eval.proofs.unwinding.unwind.Given as goal

-- the operation went through all frames but those that are left
abbrev pub invariant-outwards : goal.invariant-outwards
invariant-outwards l = Unwinds l.fn.state l.state l.fn.stack.items l.stack.items l.fn.operation l.operation

abbrev pub decreases-outwards : goal.decreases-outwards
decreases-outwards l = goal.left-outwards l
