use Rattle.ft_syntax.specs.Table.{tree}
use Rattle.ft_run.proofs.Printing.{IsWritten}
use Rattle.ft_run.specs.Claiming.{names_known}
use Rattle.ft_run.proofs.texts.+push_expression.Given as goal

abbrev pub decreases-push_expression : goal.decreases-push_expression
decreases-push_expression l = l.e

abbrev pub invariant-loop-i : goal.invariant-loop-i
invariant-loop-i l = IsWritten (names_known l.known) (tree l.terms l.e) l.i l.fn.out l.out
