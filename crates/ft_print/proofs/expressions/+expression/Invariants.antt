use Rattle.std.proofs.Common.{◌≡◌, ◌++◌, ◌+◌, ◌*◌, map, take}
use Rattle.ft_items.specs.Store.{declared_by}
use Rattle.ft_syntax.specs.Arguments.{arguments_of}
use Rattle.ft_syntax.specs.Table.{tree}
use Rattle.ft_print.specs.Arguments.{argument_text}
use Rattle.ft_print.proofs.Joining.{opened}
use Rattle.ft_print.proofs.ByArguments.{body_measure}
use Rattle.ft_print.proofs.expressions.+expression.Given as goal

abbrev pub decreases-push_part : goal.decreases-push_part
decreases-push_part l = 3 * l.e + 2

abbrev pub decreases-push_arguments : goal.decreases-push_arguments
decreases-push_arguments l = 3 * l.e + 1

abbrev pub decreases-push_body : goal.decreases-push_body
decreases-push_body l = body_measure l.body

abbrev pub invariant-push_arguments-loop-i : goal.invariant-push_arguments-loop-i
invariant-push_arguments-loop-i l = l.out ≡ l.fn.out ++ opened (map (argument_text (declared_by l.k.items) l.variables l.n) (take l.i (arguments_of (tree l.k.trees l.e))))
