use Rattle.std.proofs.Common.{◌≡◌, ◌≤◌, ◌+◌, ◌-◌, ◌++◌, length, drop}
use Rattle.ft_grammar.specs.Tokens.{width, tokens_from}
use Rattle.ft_lexer.proofs.scan.scan_of.Given as goal

abbrev pub invariant-loop-i : goal.invariant-loop-i
invariant-loop-i l = record {
  within : l.i ≤ length l.chars;
  width : l.at + width (drop l.i l.chars) ≡ width l.chars;
  tokens : l.tokens.items ++ tokens_from l.at 0 (drop l.i l.chars) ≡ tokens_from 0 0 l.chars;
}

abbrev pub decreases-loop-i : goal.decreases-loop-i
decreases-loop-i l = length l.chars - l.i
