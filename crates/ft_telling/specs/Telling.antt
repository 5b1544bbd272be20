-- What is told of an evaluation over the list of a kernel.
use Rattle.std.specs.Prelude.{ℕ, zero, ◌≡◌, ◌≢◌, ◌-◌, Option, Some, None, List, [], length, Result, Ok, Err}
use Rattle.ft_theory.specs.Expressions.{Expression, bound}
use Rattle.ft_theory.specs.Rules.{look_up}
use Rattle.ft_items.specs.Store.{Assertion, Annotation, declared_by}
use Rattle.ft_equality.specs.Shapes.{no_rules}
use Rattle.ft_base.specs.Budget.{Budget}
use Rattle.ft_meaning.specs.Values as meaning
use Rattle.ft_judge.specs.declared.fault.Fault.{Fault}
use Rattle.ft_judge.specs.declared.fault.Fault.TheVariants as fault
use Rattle.ft_kernel.specs.State.{State}
use Rattle.ft_calls.specs.Answers.{refusal_in, RefusalBelow}
use Rattle.ft_values.specs.Kept.{stated_at}
use Rattle.ft_telling.specs.declared.halt.Why.{Why}
use Rattle.ft_telling.specs.declared.halt.Why.TheVariants as why
use Rattle.ft_telling.specs.declared.halt.Halt.{Halt}

-- the state of a run over the list of items, where no equality rule is declared
abbrev pub state_of : State → Budget → meaning.State
state_of s u = record {
  declarations = declared_by s.items;
  equality_rules = no_rules;
  units = record { used = u.used; left = u.total - u.used };
}

-- why a run halts at a place, with expressions of a table; where memory was refused nothing is said
abbrev pub halt_by : List Expression → ℕ → Why → meaning.Halt
halt_by ts at (why.Refused r) = meaning.fails (meaning.Refused (refusal_in ts r)) at
halt_by ts at why.NoMatch = meaning.fails meaning.NoMatch at
halt_by ts at why.Spent = meaning.spent at
halt_by ts at why.Stuck = meaning.stuck
halt_by ts at why.Memory = meaning.stuck

abbrev pub halt_in : List Expression → Halt → meaning.Halt
halt_in ts h = halt_by ts h.at h.why

-- the expressions that a refusal names are in the table
abbrev pub IsWhyOver : List Expression → Why → Type 0
IsWhyOver ts (why.Refused r) = RefusalBelow (length ts) r
IsWhyOver ts w = Unit {0}

-- the run halts as is told, by expressions of the table, unless memory was refused
abbrev pub HaltsSo : {A : Type 0} → meaning.Outcome A → Halt → State → Budget → Type 0
HaltsSo o h t u = h.why ≢ why.Memory → IsWhyOver t.trees h.why
    × (o ≡ (Err (meaning.halts (halt_in t.trees h)), state_of t u))

-- The run gives what a number is seen as over the list, and leaves the list and the units so; or it
-- halts as is told.
abbrev pub Tells : {A : Type 0} → (State → ℕ → A) → meaning.Outcome A → Result ℕ Halt → State
    → Budget → Type 0
Tells seen o (Ok n) t u = o ≡ (Ok (seen t n), state_of t u)
Tells seen o (Err h) t u = HaltsSo o h t u

-- the judgement, or the boundary, of an entry as a value
abbrev pub judgement_at : State → ℕ → meaning.Value
judgement_at t j = meaning.judgement (stated_at t j)

abbrev pub boundary_at : State → ℕ → meaning.Value
boundary_at t b = meaning.boundary (stated_at t b)

abbrev pub TellsJudgement : meaning.Outcome meaning.Value → Result ℕ Halt → State → Budget → Type 0
TellsJudgement o r t u = Tells judgement_at o r t u

abbrev pub TellsBoundary : meaning.Outcome meaning.Value → Result ℕ Halt → State → Budget → Type 0
TellsBoundary o r t u = Tells boundary_at o r t u

-- so for a statement with its set
abbrev pub TellsStatement : meaning.Outcome Assertion → Result ℕ Halt → State → Budget → Type 0
TellsStatement o r t u = Tells stated_at o r t u

-- a fault of a call, at a place
abbrev pub fault_at : ℕ → Fault → Halt
fault_at at (fault.Refused r) = record { at = at; why = why.Refused r }
fault_at at fault.Memory = record { at = at; why = why.Memory }

-- what a call answered, at a place
abbrev pub halted_at : ℕ → Result ℕ Fault → Result ℕ Halt
halted_at at (Ok j) = Ok j
halted_at at (Err f) = Err (fault_at at f)

-- the variable of a number with what is declared under it, or a dummy
abbrev pub annotation_or : Option Annotation → Annotation
annotation_or (Some d) = d
annotation_or None = record { name = []; annotation = bound zero; set = [] }

abbrev pub variable_at : State → ℕ → ℕ × Annotation
variable_at s v = (v, annotation_or (look_up (declared_by s.items).variables v))

-- so for a variable that is declared
abbrev pub TellsVariable : meaning.Outcome (ℕ × Annotation) → Result ℕ Halt → State → Budget
    → Type 0
TellsVariable o r t u = Tells variable_at o r t u

-- The run spends a unit, or halts as is told.
abbrev pub TellsUnit : meaning.Outcome (Unit {0}) → Result (Unit {0}) Halt → State → Budget
    → Type 0
TellsUnit o (Ok x) t u = o ≡ (Ok tt, state_of t u)
TellsUnit o (Err h) t u = HaltsSo o h t u
