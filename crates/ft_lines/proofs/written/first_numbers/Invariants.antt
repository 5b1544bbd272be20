use Rattle.std.proofs.Common.{◌≡◌, ◌++◌, drop}
use Rattle.ft_lines.specs.Written.{first_numbers}
use Rattle.ft_lines.proofs.written.first_numbers.Given as goal

abbrev pub invariant-loop-part : goal.invariant-loop-part
invariant-loop-part l = first_numbers l.parts ≡ l.found ++ first_numbers (drop l.part-index l.parts)
