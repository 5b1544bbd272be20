-- What commands do, and what a run of them does, up to the first rule of the name of an earlier one.
use Rattle.std.specs.Prelude.{ℕ, cond, List, [], ◌∷◌, Option, Some, option_map, option_and_then}
use Rattle.ft_theory.specs.Statements.{Claim}
use Rattle.ft_theory.specs.Rules.{Rule}
use Rattle.ft_items.specs.Good.{is_new}
use Rattle.ft_applications_meaning.specs.declared.syntax.Command.{Command}
use Rattle.ft_applications_meaning.specs.declared.syntax.Command.TheVariants as command
use Rattle.ft_applications_meaning.specs.Building.{Declaration, names, claim_of, declared, with_rule}

-- What a command does: it declares a rule of a new name, or a rule of the name of an earlier one, or it shows a thesis over
-- the rules before it.
pub data Event : Type 0 where
  accepts : Declaration → Event
  repeats : List ℕ → Event
  shows : List Declaration → Claim → Event

-- what the declaration of a rule does
abbrev pub event_of_rule : List Declaration → List ℕ → Rule → Event
event_of_rule ds n R = cond (is_new (names ds) n) (accepts (record { name = n; rule = R })) (repeats n)

-- what a command does over the rules before it, with the rules after it; None where it is not built
abbrev pub done : List Declaration → Command → Option (List Declaration × Event)
done ds (command.Rule n ps c) = option_map (λ R. (with_rule ds n R, event_of_rule ds n R)) (declared ds ps c)
done ds (command.Show a) = option_map (λ c. (ds, shows ds c)) (claim_of ds a)

-- what commands do in their order, each built over the rules before it; None where one is not
abbrev pub events : List Declaration → List Command → Option (List Event)
events ds [] = Some []
events ds (c ∷ cs) = option_and_then (λ s. option_map (λ es. s.1 ∷ es) (events s.0 cs)) (done ds c)

-- what is run: all before the first rule of the name of an earlier one, which ends the run
abbrev pub run_of : List Event → List Event
run_of [] = []
run_of (accepts d ∷ es) = accepts d ∷ run_of es
run_of (repeats n ∷ es) = []
run_of (shows ds c ∷ es) = shows ds c ∷ run_of es
