use Rattle.std.proofs.Common.{◌≡◌, ◌++◌, ◌+◌, ◌*◌, map, take, codes}
use Rattle.ft_items.specs.Texts.{joined}
use Rattle.ft_syntax.specs.Arguments.{node_of, arguments_of}
use Rattle.ft_syntax.specs.Table.{tree}
use Rattle.ft_export.specs.Arguments.{argument_text, ArgumentsFit}
use Rattle.ft_export.proofs.ByArguments.{body_measure}
use Rattle.ft_export.proofs.expressions.+expression.Given as goal

abbrev pub decreases-push_expression : goal.decreases-push_expression
decreases-push_expression l = 3 * l.e + 2

abbrev pub decreases-push_arguments : goal.decreases-push_arguments
decreases-push_arguments l = 3 * l.e + 1

abbrev pub decreases-push_body : goal.decreases-push_body
decreases-push_body l = body_measure l.body

abbrev pub invariant-push_arguments-loop-i : goal.invariant-push_arguments-loop-i
invariant-push_arguments-loop-i l = record {
  out : l.out ≡ (l.fn.out ++ codes "(") ++ joined (codes ",") (map (argument_text (node_of (tree l.terms l.e))) (take l.i (arguments_of (tree l.terms l.e))));
  fits : ArgumentsFit (take l.i (arguments_of (tree l.terms l.e)));
}
