use Rattle.ft_syntax.specs.Chains.{after, marks_of}
use Rattle.ft_syntax.proofs.Chained.{Walked}
use Rattle.ft_syntax.proofs.index.marked.Given as goal

abbrev pub decreases-walking : goal.decreases-walking
decreases-walking l = after l.at

abbrev pub invariant-walking : goal.invariant-walking
invariant-walking l = Walked (marks_of l.links) l.buckets l.mark l.fn.from l.at
