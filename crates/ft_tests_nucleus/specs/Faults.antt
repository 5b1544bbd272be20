-- What a fault and a shown item name.
use Rattle.std.specs.Prelude.{ℕ}
use Rattle.ft_judge.specs.declared.fault.Fault.{Fault}
use Rattle.ft_judge.specs.declared.fault.Fault.TheVariants.{Refused, Memory}
use Rattle.ft_kernel.specs.State.{State, IsThesisOf, IsBoundaryOf}
use Rattle.ft_kernel.specs.declared.item.Item.{Item}
use Rattle.ft_kernel.specs.declared.item.Item.TheVariants.{Var, Met, Rule, Thesis, Boundary, Shown}
use Rattle.ft_calls.specs.Answers.{RefusalBelow}
use Rattle.ft_tests_nucleus.specs.declared.stop.Stop.{Stop}
use Rattle.ft_tests_nucleus.specs.declared.stop.Stop.TheVariants as stop

-- each expression of the fault is among the first n trees
abbrev pub FaultBelow : ℕ → Fault → Type 0
FaultBelow n (Refused r) = RefusalBelow n r
FaultBelow n Memory = Unit {0}

-- each expression of the stop is among the first n trees
abbrev pub StopBelow : ℕ → Stop → Type 0
StopBelow n stop.Script = Unit {0}
StopBelow n (stop.Refused r) = RefusalBelow n r
StopBelow n stop.Memory = Unit {0}

-- the entry that an item is shown by is a thesis or a boundary of the list
abbrev pub IsNamed : State → Item → Type 0
IsNamed s (Var v) = Unit {0}
IsNamed s (Met m) = Unit {0}
IsNamed s (Rule r) = Unit {0}
IsNamed s (Thesis j t) = IsThesisOf s j
IsNamed s (Boundary b t) = IsBoundaryOf s b
IsNamed s (Shown j) = Unit {0}
