use Rattle.std.proofs.Common.{◌≡◌, ◌+◌, drop}
use Rattle.ft_common.specs.Digits.{run}
use Rattle.ft_lines.specs.Steps.{is_letter}
use Rattle.ft_lines.proofs.cursor.letters.Given as goal

abbrev pub invariant-loop-c : goal.invariant-loop-c
invariant-loop-c l = record {
  count : l.length ≡ l.c-index;
  run : run is_letter l.text ≡ l.length + run is_letter (drop l.c-index l.text);
}
