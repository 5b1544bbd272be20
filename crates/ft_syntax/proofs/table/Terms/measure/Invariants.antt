use Rattle.std.proofs.Common.{◌≤◌, drop}
use Rattle.ft_syntax.proofs.Measures.{Measured}
use Rattle.ft_syntax.proofs.table.Terms.measure.Given as goal

abbrev pub invariant-loop-a : goal.invariant-loop-a
invariant-loop-a l = record { measured : Measured l.self l.depth l.size (drop l.a-index l.args) l.args; short : l.size ≤ 65535 }
