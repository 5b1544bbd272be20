use Rattle.std.proofs.Common.{◌≡◌, ◌<◌, ◌^◌, drop}
use Rattle.ft_common.specs.Digits.{decimal_value}
use Rattle.ft_lines.proofs.cursor.value.Given as goal

abbrev pub invariant-loop-c : goal.invariant-loop-c
invariant-loop-c l = record {
  fits : l.value < 2 ^ 64;
  value : decimal_value 0 l.digits ≡ decimal_value l.value (drop l.c-index l.digits);
}
