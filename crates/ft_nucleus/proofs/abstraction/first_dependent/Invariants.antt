use Rattle.ft_items.specs.Store.{declared_by}
use Rattle.ft_reference.specs.Checks.{first_dependent as least_dependent}
use Rattle.ft_nucleus.proofs.Seeking.{IsBehind}
use Rattle.ft_nucleus.proofs.abstraction.first_dependent.Given as goal

abbrev pub invariant-loop-i : goal.invariant-loop-i
invariant-loop-i l = IsBehind (least_dependent (declared_by l.k.items).variables l.v) l.atoms l.i
