use Rattle.ft_judge.proofs.Differences.{Comparing}
use Rattle.ft_judge.proofs.compare.same_domains.Given as goal

abbrev pub invariant-loop-i : goal.invariant-loop-i
invariant-loop-i l = Comparing l.t l.found l.wanted l.i
