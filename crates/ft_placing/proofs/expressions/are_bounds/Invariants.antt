use Rattle.std.proofs.Common.{◌≡◌, ◌-◌, drop}
use Rattle.ft_syntax.specs.Arguments.{arguments_of}
use Rattle.ft_syntax.specs.Table.{tree}
use Rattle.ft_placing.specs.Applied.{are_bounds}
use Rattle.ft_placing.proofs.expressions.are_bounds.Given as goal

abbrev pub invariant-loop-k : goal.invariant-loop-k
invariant-loop-k l = are_bounds l.n (arguments_of (tree l.terms l.e)) ≡ are_bounds (l.n - l.k) (drop l.k (arguments_of (tree l.terms l.e)))
