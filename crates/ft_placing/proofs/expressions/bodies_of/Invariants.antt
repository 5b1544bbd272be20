use Rattle.std.proofs.Common.{◌≡◌, ◌++◌, drop, length}
use Rattle.ft_syntax.specs.Arguments.{arguments_of}
use Rattle.ft_syntax.specs.Table.{tree, AllBelow}
use Rattle.ft_placing.specs.Applied.{bodies}
use Rattle.ft_placing.specs.Opening.{trees_of}
use Rattle.ft_placing.proofs.expressions.bodies_of.Given as goal

abbrev pub invariant-loop-k : goal.invariant-loop-k
invariant-loop-k l = record {
  below : AllBelow (length l.terms) l.list.items;
  same : trees_of l.terms l.list.items ++ bodies (drop l.k (arguments_of (tree l.terms l.e))) ≡ bodies (arguments_of (tree l.terms l.e));
}
