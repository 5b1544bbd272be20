use Rattle.std.proofs.Common.{◌≡◌, drop}
use Rattle.ft_steps.specs.Parts.{equal_domains}
use Rattle.ft_steps.proofs.equal.same_domains.Given as goal

abbrev pub invariant-loop-k : goal.invariant-loop-k
invariant-loop-k l = equal_domains l.terms l.xs l.ys ≡ equal_domains l.terms (drop l.k l.xs) (drop l.k l.ys)
