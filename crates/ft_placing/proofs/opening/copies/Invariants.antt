use Rattle.ft_placing.proofs.Copied.{CopiedSoFar}
use Rattle.ft_placing.proofs.opening.copies.Given as goal

abbrev pub invariant-loop-k : goal.invariant-loop-k
invariant-loop-k l = CopiedSoFar l.terms l.list l.k l.own l.copied.items
