use Rattle.std.proofs.Common.{◌≡◌, ◌≤◌, ◌-◌, length, take}
use Rattle.ft_streams.specs.Streams.{Appends}
use Rattle.ft_outside.proofs.whole.write_all.Given as goal

abbrev pub invariant-loop-at : goal.invariant-loop-at
invariant-loop-at g l =
    let O = g.O.Sink in record {
      within : l.at ≤ length l.bytes;
      bytes : Appends (O.written l.fn.sink) (take l.at l.bytes) (O.written l.sink);
      calm : O.faults l.sink ≡ O.faults l.fn.sink;
    }

abbrev pub decreases-loop-at : goal.decreases-loop-at
decreases-loop-at g l = length l.bytes - l.at
