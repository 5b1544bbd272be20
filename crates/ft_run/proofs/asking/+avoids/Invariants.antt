use Rattle.std.proofs.Common.{◌≡◌, drop, map}
use Rattle.ft_applications_meaning.specs.Building.{premise_names, all_true, avoids}
use Rattle.ft_run.proofs.Nodes.{nodes}
use Rattle.ft_run.proofs.asking.+avoids.Given as goal

abbrev pub invariant-loop-argument : goal.invariant-loop-argument
invariant-loop-argument l = all_true (map (avoids (premise_names l.fn.taken)) l.arguments) ≡ all_true (map (avoids (premise_names l.fn.taken)) (drop l.argument-index l.arguments))

abbrev pub decreases-avoids : goal.decreases-avoids
decreases-avoids l = nodes l.a.now
