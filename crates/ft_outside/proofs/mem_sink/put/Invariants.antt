use Rattle.std.proofs.Common.{◌≡◌, ◌≤◌, ◌++◌, take}
use Rattle.std.specs.Prelude.{vec_capacity}
use Rattle.ft_outside.proofs.mem_sink.put.Given as goal

abbrev pub invariant-loop-b : goal.invariant-loop-b
invariant-loop-b l = record {
  bytes : l.out.items ≡ l.fn.out.items ++ take l.b-index l.bytes;
  room : vec_capacity l.fn.out ≤ vec_capacity l.out;
}
