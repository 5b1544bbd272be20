use Rattle.std.proofs.Common.{◌≡◌, ◌++◌, drop}
use Rattle.ft_check.specs.Comparing.{paired}
use Rattle.ft_check.proofs.instances.paired.Given as goal

abbrev pub invariant-loop-k : goal.invariant-loop-k
invariant-loop-k l = l.pairs ++ paired (drop l.k l.ms) (drop l.k l.arguments) ≡ paired l.ms l.arguments
