use Rattle.std.proofs.Common.{◌≡◌, ◌≤◌, drop}
use Rattle.ft_answers.specs.CommandLine.{number_in}
use Rattle.ft_words.proofs.Numbers.{number_tail}
use Rattle.ft_words.proofs.number.number_of.Given as goal

abbrev pub invariant-loop-byte : goal.invariant-loop-byte
invariant-loop-byte l = record {
  small : l.number ≤ l.most;
  same : number_tail l.most l.number (drop l.byte-index l.bytes) ≡ number_in l.most l.text;
}
