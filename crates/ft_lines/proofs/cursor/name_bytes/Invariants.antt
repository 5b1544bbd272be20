use Rattle.std.proofs.Common.{◌≡◌, ◌+◌, drop}
use Rattle.ft_common.specs.Digits.{run}
use Rattle.ft_lines.specs.Names.{is_no_space}
use Rattle.ft_lines.proofs.cursor.name_bytes.Given as goal

abbrev pub invariant-loop-c : goal.invariant-loop-c
invariant-loop-c l = record {
  count : l.length ≡ l.c-index;
  run : run is_no_space l.text ≡ l.length + run is_no_space (drop l.c-index l.text);
}
