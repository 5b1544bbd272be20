use Rattle.ft_syntax.proofs.Spelling.{MarkedFirst}
use Rattle.ft_syntax.proofs.marks.mark_of.Given as goal

abbrev pub invariant-loop-arg : goal.invariant-loop-arg
invariant-loop-arg l = MarkedFirst l.fn.node l.args l.arg-index l.mark
