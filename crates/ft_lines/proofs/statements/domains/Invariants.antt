use Rattle.std.proofs.Common.{◌≡◌, ◌-◌, length, map, []}
use Rattle.ft_syntax.specs.Table.{tree, Extends, AllBelow}
use Rattle.ft_lines.specs.Statements.{domains_from}
use Rattle.ft_lines.proofs.statements.domains.Given as goal

abbrev pub invariant-loop-turn : goal.invariant-loop-turn
invariant-loop-turn l = record {
  below : AllBelow (length l.terms) l.found;
  goes_on : Extends l.fn.terms l.terms;
  same : domains_from (length l.fn.text) [] l.fn.text ≡ domains_from (l._turn-end - l._turn) (map (tree l.terms) l.found) l.text;
}
