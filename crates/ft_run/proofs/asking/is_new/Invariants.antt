use Rattle.std.proofs.Common.{◌≡◌, drop}
use Rattle.ft_items.specs.Good.{is_new}
use Rattle.ft_applications_meaning.specs.Building.{premise_names}
use Rattle.ft_run.proofs.asking.is_new.Given as goal

abbrev pub invariant-loop-premise : goal.invariant-loop-premise
invariant-loop-premise l = is_new (premise_names l.fn.taken) l.fn.given ≡ is_new (premise_names (drop l.premise-index l.taken)) l.given
