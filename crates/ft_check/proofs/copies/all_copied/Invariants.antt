use Rattle.ft_check.proofs.Copied.{CopiedSoFar}
use Rattle.ft_check.proofs.copies.all_copied.Given as goal

abbrev pub invariant-loop-k : goal.invariant-loop-k
invariant-loop-k l = CopiedSoFar l.other l.arguments l.k l.terms l.list.items
