use Rattle.std.proofs.Common.{drop}
use Rattle.ft_eval.proofs.Searching.{Searches}
use Rattle.ft_eval.proofs.resuming.first_match.Given as goal

-- no case so far matched
abbrev pub invariant-loop-c : goal.invariant-loop-c
invariant-loop-c l = Searches l.fn.state l.state l.at l.v l.scope l.fn.cs (drop l.c-index l.cs)
