use Rattle.std.proofs.Common.{◌≡◌, [], drop, map}
use Rattle.ft_meaning.specs.Trees.{binder}
use Rattle.ft_meaning.specs.Stages.{binder_parts}
use Rattle.ft_stages.specs.First.{first}
use Rattle.ft_stages.proofs.commands.in_binders.Given as goal

abbrev pub invariant-loop-b : goal.invariant-loop-b
invariant-loop-b l = first (binder_parts [] (map binder (drop l.b-index l.bs))) ≡ first (binder_parts [] (map binder l.bs))
