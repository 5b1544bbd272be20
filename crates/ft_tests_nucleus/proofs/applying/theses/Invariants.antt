use Rattle.ft_apply.specs.Named.{AreThesesOf}
use Rattle.ft_tests_nucleus.proofs.applying.theses.Given as goal

abbrev pub invariant-loop-i : goal.invariant-loop-i
invariant-loop-i l = AreThesesOf l.fn.k l.found
