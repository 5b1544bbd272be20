use Rattle.ft_syntax.proofs.Spelling.{SpelledFirst}
use Rattle.ft_syntax.proofs.marks.spelling_of.Given as goal

abbrev pub invariant-loop-arg : goal.invariant-loop-arg
invariant-loop-arg l = SpelledFirst l.fn.node l.args l.arg-index l.words.items
