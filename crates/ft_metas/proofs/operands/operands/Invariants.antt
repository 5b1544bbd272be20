use Rattle.ft_judge.specs.Meaning.{boundary_in}
use Rattle.ft_metas.proofs.Taking.{Taking}
use Rattle.ft_metas.proofs.operands.operands.Given as goal

abbrev pub invariant-loop-i : goal.invariant-loop-i
invariant-loop-i l = Taking l.fn.k l.k l.given (boundary_in l.fn.k.trees l.b) l.args l.i l.found
