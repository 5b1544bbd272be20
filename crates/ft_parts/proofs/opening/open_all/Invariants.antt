use Rattle.ft_parts.proofs.Opened.{Opening}
use Rattle.ft_parts.proofs.opening.open_all.Given as goal

abbrev pub invariant-loop-i : goal.invariant-loop-i
invariant-loop-i l = Opening l.fn.k l.k l.fn.ty l.domains l.e l.i l.opened
