use Rattle.std.proofs.Common.{◌≡◌, map, take}
use Rattle.ft_run.proofs.given.entries.Given as goal

abbrev pub invariant-loop-x : goal.invariant-loop-x
invariant-loop-x l = l.found ≡ map (λ x. x.entry) (take l.x-index l.given)
