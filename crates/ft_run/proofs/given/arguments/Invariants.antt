use Rattle.std.proofs.Common.{◌≡◌, map, take}
use Rattle.ft_run.specs.Given.{argument_of}
use Rattle.ft_run.proofs.given.arguments.Given as goal

abbrev pub invariant-loop-x : goal.invariant-loop-x
invariant-loop-x l = l.found.items ≡ map (λ x. argument_of x.form) (take l.x-index l.given)
