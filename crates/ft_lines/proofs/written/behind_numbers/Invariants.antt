use Rattle.std.proofs.Common.{◌≡◌, drop}
use Rattle.ft_lines.specs.Written.{behind_numbers}
use Rattle.ft_lines.proofs.written.behind_numbers.Given as goal

abbrev pub invariant-loop-part : goal.invariant-loop-part
invariant-loop-part l = record {
  count : l.at ≡ l.part-index;
  same : behind_numbers l.parts ≡ behind_numbers (drop l.at l.parts);
}
