use Rattle.std.proofs.Common.{◌≡◌, ◌++◌, take}
use Rattle.ft_syntax.specs.Arguments.{arguments_of}
use Rattle.ft_syntax.specs.Table.{tree}
use Rattle.ft_print.proofs.Gathered.{mentioned_in}
use Rattle.ft_print.proofs.mentioned.+push_mentioned.Given as goal

abbrev pub decreases-push_mentioned : goal.decreases-push_mentioned
decreases-push_mentioned l = l.e

abbrev pub invariant-loop-i : goal.invariant-loop-i
invariant-loop-i l = l.found.items ≡ l.fn.found.items ++ mentioned_in (take l.i (arguments_of (tree l.terms l.e)))
