use Rattle.std.proofs.Common.{◌≡◌, ◌+◌, drop}
use Rattle.std.specs.Char.{is_ascii_digit}
use Rattle.ft_common.specs.Digits.{run}
use Rattle.ft_lines.proofs.cursor.digits.Given as goal

abbrev pub invariant-loop-c : goal.invariant-loop-c
invariant-loop-c l = record {
  count : l.length ≡ l.c-index;
  run : run is_ascii_digit l.text ≡ l.length + run is_ascii_digit (drop l.c-index l.text);
}
