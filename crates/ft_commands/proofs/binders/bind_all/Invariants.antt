use Rattle.std.proofs.Common.{drop}
use Rattle.ft_commands.proofs.Binding.{Binds}
use Rattle.ft_commands.proofs.binders.bind_all.Given as goal

-- the binders so far are bound
abbrev pub invariant-loop-b : goal.invariant-loop-b
invariant-loop-b l = Binds l.fn.state l.state l.fn.binders (drop l.b-index l.binders) l.fn.scope l.scope l.bounds.items
