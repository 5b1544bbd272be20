use Rattle.std.proofs.Common.{◌≡◌, ◌+◌, drop}
use Rattle.ft_read.specs.Files.{before_feed}
use Rattle.ft_read.proofs.lines.before_feed.Given as goal

abbrev pub invariant-loop-byte : goal.invariant-loop-byte
invariant-loop-byte l = record {
  count : l.length ≡ l.byte-index;
  run : before_feed l.bytes ≡ l.length + before_feed (drop l.byte-index l.bytes);
}
