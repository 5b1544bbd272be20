use Rattle.std.proofs.Common.{◌≡◌, ◌+◌, drop}
use Rattle.ft_grammar.specs.Tokens.{width}
use Rattle.ft_lexer.proofs.scan.width_of.Given as goal

abbrev pub invariant-loop-c : goal.invariant-loop-c
invariant-loop-c l = width l.chars ≡ l.bytes + width (drop l.c-index l.chars)
