use Rattle.std.proofs.Common.{◌≡◌, ◌+◌, ◌-◌, ◌*◌, length, map, []}
use Rattle.ft_syntax.specs.Table.{tree, Extends, argument_in, ArgumentsBelow, AllBelow}
use Rattle.ft_lines.specs.Expressions.{items_from, argument, expression_within}
use Rattle.ft_lines.proofs.expressions.+reading.Given as goal

abbrev pub decreases-expression_within : goal.decreases-expression_within
decreases-expression_within l = 8 * l.depth

abbrev pub decreases-argument : goal.decreases-argument
decreases-argument l = 8 * l.depth + 1

abbrev pub decreases-some_arguments : goal.decreases-some_arguments
decreases-some_arguments l = 8 * l.depth + 2

abbrev pub decreases-some_terms : goal.decreases-some_terms
decreases-some_terms l = 8 * l.depth + 2

abbrev pub decreases-arguments : goal.decreases-arguments
decreases-arguments l = 8 * l.depth + 3

abbrev pub decreases-given_terms : goal.decreases-given_terms
decreases-given_terms l = 8 * l.depth + 3

abbrev pub decreases-symbol_applied : goal.decreases-symbol_applied
decreases-symbol_applied l = 8 * l.depth + 4

abbrev pub decreases-meta_applied : goal.decreases-meta_applied
decreases-meta_applied l = 8 * l.depth + 4

abbrev pub decreases-application : goal.decreases-application
decreases-application l = 8 * l.depth + 5

abbrev pub decreases-level : goal.decreases-level
decreases-level l = 8 * l.depth + 6

abbrev pub invariant-some_arguments-loop-turn : goal.invariant-some_arguments-loop-turn
invariant-some_arguments-loop-turn l = record {
  below : ArgumentsBelow (length l.terms) l.found;
  goes_on : Extends l.fn.terms l.terms;
  same : items_from (argument (expression_within l.depth)) (length l.fn.text) [] l.fn.text
      ≡ items_from (argument (expression_within l.depth)) (l._turn-end - l._turn) (map (argument_in l.terms) l.found) l.text;
}

abbrev pub invariant-some_terms-loop-turn : goal.invariant-some_terms-loop-turn
invariant-some_terms-loop-turn l = record {
  below : AllBelow (length l.terms) l.found;
  goes_on : Extends l.fn.terms l.terms;
  same : items_from (expression_within l.depth) (length l.fn.text) [] l.fn.text
      ≡ items_from (expression_within l.depth) (l._turn-end - l._turn) (map (tree l.terms) l.found) l.text;
}
