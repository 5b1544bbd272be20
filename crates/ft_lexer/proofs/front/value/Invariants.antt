use Rattle.std.proofs.Common.{◌≡◌, ◌≤◌, drop}
use Rattle.ft_grammar.specs.Fronts.{decimal_value}
use Rattle.ft_lexer.proofs.front.value.Given as goal

abbrev pub invariant-loop-c : goal.invariant-loop-c
invariant-loop-c l = record {
  within : l.value ≤ 65535;
  value : decimal_value l.first l.rest ≡ decimal_value l.value (drop l.c-index l.rest);
}
