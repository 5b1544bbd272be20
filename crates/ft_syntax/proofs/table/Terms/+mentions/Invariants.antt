use Rattle.ft_syntax.proofs.Mentions.{NoneMentionFirst}
use Rattle.ft_syntax.proofs.table.Terms.+mentions.Given as goal

abbrev pub decreases-mentions : goal.decreases-mentions
decreases-mentions l = l.e

abbrev pub invariant-loop-a : goal.invariant-loop-a
invariant-loop-a l = NoneMentionFirst l.self l.v l.a-index l.a-items
