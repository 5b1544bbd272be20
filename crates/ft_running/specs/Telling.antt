-- What is told of a run over the state of an evaluation.
use Rattle.std.specs.Prelude.{ℕ, ◌≡◌, Option, Some, None, option_map, Result, Ok, Err}
use Rattle.ft_items.specs.Store.{Assertion}
use Rattle.ft_meaning.specs.Values as meaning
use Rattle.ft_telling.specs.Telling.{HaltsSo}
use Rattle.ft_telling.specs.declared.halt.Halt.{Halt}
use Rattle.ft_values.specs.declared.scopes.Scope.{Scope}
use Rattle.ft_values.specs.Kept.{stated_at}
use Rattle.ft_values.specs.declared.values.Value.{Value}
use Rattle.ft_running.specs.declared.ending.Operation.{Operation}
use Rattle.ft_running.specs.declared.ending.End.{End}
use Rattle.ft_running.specs.declared.ending.End.TheVariants as ending
use Rattle.ft_running.specs.Evaluation.{Evaluation, run_of}
use Rattle.ft_running.specs.Evaluation.{IsValueOf, value_over, IsScopeIn, environment_of}

-- the run ends without a value as is told, unless memory was refused
abbrev pub Halts : {A : Type 0} → meaning.Outcome A → Halt → Evaluation → Type 0
Halts o h e = HaltsSo o h e.list e.units

-- the operation that is performed, with its argument over the state
abbrev pub performs : Operation → Evaluation → meaning.End
performs op e = meaning.performs op.name (value_over e op.argument) op.at

-- The run performs the operation, or halts as is told.
abbrev pub TellsEnd : {A : Type 0} → meaning.Outcome A → End → Evaluation → Type 0
TellsEnd o (ending.Performs op) e =
    (o ≡ (Err (performs op e), run_of e)) × IsValueOf e op.argument
TellsEnd o (ending.Halts h) e = Halts o h e

-- The run gives the value, or ends as is told.
abbrev pub TellsValue : meaning.Outcome meaning.Value → Result Value End → Evaluation → Type 0
TellsValue o (Ok v) e = (o ≡ (Ok (value_over e v), run_of e)) × IsValueOf e v
TellsValue o (Err end) e = TellsEnd o end e

-- what a scope stands for, where there is one
abbrev pub found_in : Evaluation → Option Scope → Option meaning.Environment
found_in e (Some s) = Some (environment_of e s)
found_in e None = None

-- it is a scope of the state, where there is one
abbrev pub IsFoundIn : Evaluation → Option Scope → Type 0
IsFoundIn e (Some s) = IsScopeIn e s
IsFoundIn e None = Unit {0}

-- The match gives the named values that the scope stands for, or none; or it halts as is told.
abbrev pub TellsMatch : meaning.Outcome (Option meaning.Environment) → Result (Option Scope) Halt
    → Evaluation → Type 0
TellsMatch o (Ok found) e = (o ≡ (Ok (found_in e found), run_of e)) × IsFoundIn e found
TellsMatch o (Err h) e = Halts o h e

-- The run gives what the entry states, where there is one; or it halts as is told.
abbrev pub TellsApplied : meaning.Outcome (Option Assertion) → Result (Option ℕ) Halt
    → Evaluation → Type 0
TellsApplied o (Ok found) e = o ≡ (Ok (option_map (stated_at e.list) found), run_of e)
TellsApplied o (Err h) e = Halts o h e

-- The run gives what the value states as a judgement, or halts as is told.
abbrev pub TellsArgument : meaning.Outcome Assertion → Result Value Halt → Evaluation → Type 0
TellsArgument o (Ok v) e = (a : Assertion) × (o ≡ (Ok a, run_of e))
    × (value_over e v ≡ meaning.judgement a) × IsValueOf e v
TellsArgument o (Err h) e = Halts o h e
