-- What a command has to tell, or why it halts, and what it leaves.
use Rattle.std.specs.Prelude.{ℕ, ◌≡◌, ◌≢◌, Option, Some, None, List, [], ◌∷◌, ◌++◌, length, map, Result, Ok, Err}
use Rattle.ft_theory.specs.Expressions.{Expression}
use Rattle.ft_theory.specs.Rules.{Rule}
use Rattle.ft_items.specs.Item.{Name, Item, shown}
use Rattle.ft_items.specs.Store.{declared_by, store_of}
use Rattle.ft_reference.specs.Declare as reference
use Rattle.ft_meaning.specs.Values as meaning
use Rattle.ft_meaning.specs.Values.{◌>>=◌, pure, as_judgement, as_judgements}
use Rattle.ft_meaning.specs.Typing.{Scope as Types}
use Rattle.ft_meaning.specs.CommandTyping.{scope_after}
use Rattle.ft_meaning.specs.Commands as command
use Rattle.ft_meaning.specs.Trees.{Command}
use Rattle.ft_meaning.specs.Events.{Told, declares, told_from, told_by_event, events_of}
use Rattle.ft_meaning_laws.specs.Fits.{Fits}
use Rattle.ft_calls.specs.Answers.{refusal_in, RefusalBelow}
use Rattle.ft_kernel.specs.State.{State}
use Rattle.ft_apply.specs.Named.{AreThesesOf}
use Rattle.ft_values.specs.Kept.{GoesOn}
use Rattle.ft_values.specs.declared.scopes.Scope.TheVariants.{Top}
use Rattle.ft_running.specs.Evaluation.{Evaluation, run_of, environment_of}
use Rattle.ft_running.specs.Asked.{judgements_of}
use Rattle.ft_drafting.specs.Drafting.{reason, TellsStop}
use Rattle.ft_telling.specs.declared.halt.Why.{Why}
use Rattle.ft_telling.specs.declared.halt.Why.TheVariants as halting
use Rattle.ft_running.specs.Ends.{IsMemory}
use Rattle.ft_running.specs.declared.ending.End.{End}
use Rattle.ft_running.specs.declared.ending.End.TheVariants as ending
use Rattle.ft_running.specs.Telling.{TellsEnd}
use Rattle.ft_drafting.specs.declared.stops.Stop.{Stop}
use Rattle.ft_drafting.specs.declared.stops.Stop.TheVariants as stop
use Rattle.ft_commands.specs.declared.done.Done.{Done}
use Rattle.ft_commands.specs.declared.done.Done.TheVariants as done
use Rattle.ft_commands.specs.declared.done.EvalFault.{EvalFault}
use Rattle.ft_commands.specs.declared.done.EvalWhy.{EvalWhy}
use Rattle.ft_commands.specs.declared.done.EvalWhy.TheVariants as why

-- the named values of the commands before
abbrev pub named_in : Evaluation → meaning.Environment
named_in e = environment_of e Top

-- what a value shows is this: the judgements of entries, or that an option holds nothing
abbrev pub IsShown : Evaluation → Done → command.Done → Type 0
IsShown e (done.Shown js) (command.Shown bs) =
    AreThesesOf e.list js.items × (bs ≡ judgements_of e js.items)
IsShown e done.ShownNone command.ShownNone = Unit {0}
IsShown e d m = ⊥

-- what the command tells is this: the name of the rule, what is shown, or nothing
abbrev pub IsDone : Evaluation → Done → command.Done → Type 0
IsDone e (done.Accepted n) (command.Accepted m R) = n ≡ m
IsDone e done.Quiet command.Quiet = Unit {0}
IsDone e d m = IsShown e d m

-- the second list has the items of the first, and more after them, which tell this
abbrev pub ItemsTell : State → State → List Told → Type 0
ItemsTell s t ts = (more : List Item) × (t.items ≡ s.items ++ more)
    × (told_from (store_of s.items) more ≡ ts)

-- what a command tells, as its items tell it
abbrev pub told_by : Evaluation → command.Done → List Told
told_by e m = map told_by_event (events_of (declared_by e.list.items) m)

-- From the state S on the run tells this and leaves the state e, whose further items tell the same.
abbrev pub TellsDone : {E : Type 0} → Result (command.Done × meaning.Environment) E × meaning.State
    → Evaluation → Done → Evaluation → Type 0
TellsDone o S d e = (m : command.Done) × IsDone e d m × (o ≡ (Ok (m, named_in e), run_of e))
    × ItemsTell S.list e.list (told_by e m)

-- why no rule is declared, as a halt at a place
abbrev pub rule_halt : ℕ → Option reference.RuleFault → Option meaning.Halt
rule_halt at (Some f) = Some (meaning.fails (meaning.OfRule f) at)
rule_halt at None = None

-- why a command halts at a place, as the definitions have it; that memory was refused is no such reason
abbrev pub halt_for : List Expression → ℕ → EvalWhy → Option meaning.Halt
halt_for ts at (why.Unhandled n) = Some (meaning.fails (meaning.Unhandled n) at)
halt_for ts at (why.Refused r) = Some (meaning.fails (meaning.Refused (refusal_in ts r)) at)
halt_for ts at why.NoMatch = Some (meaning.fails meaning.NoMatch at)
halt_for ts at why.Spent = Some (meaning.spent at)
halt_for ts at (why.Rule f) = rule_halt at (reason f)
halt_for ts at why.Memory = None

-- the expressions that a refusal names are in the table
abbrev pub IsOver : List Expression → EvalWhy → Type 0
IsOver ts (why.Refused r) = RefusalBelow (length ts) r
IsOver ts w = Unit {0}

-- The run halts as is told, by expressions of the table, unless memory was refused.
abbrev pub TellsFault : Result (command.Done × meaning.Environment) meaning.Halt × meaning.State
    → EvalFault → Evaluation → Type 0
TellsFault o f e = f.why ≢ why.Memory → IsOver e.list.trees f.why × (h : meaning.Halt)
    × (halt_for e.list.trees f.at f.why ≡ Some h) × (o ≡ (Err h, run_of e))

-- The run of a command from the state S on does this, and leaves the state e.
abbrev pub TellsRun : Result (command.Done × meaning.Environment) meaning.Halt × meaning.State
    → Evaluation → Result Done EvalFault → Evaluation → Type 0
TellsRun o S (Ok d) e = TellsDone o S d e
TellsRun o S (Err f) e = TellsFault o f e

-- Nothing was accepted and nothing shown: the names are those before, and the items after the earlier
-- ones declare no rule and mark nothing.
pub record IsQuiet (S e : Evaluation) : Type 0 where
  pub list : GoesOn S.list e.list
  pub names : e.top ≡ S.top

-- The command has a type in a scope that the state fits.
abbrev pub IsTyped : Command → Evaluation → Type 0
IsTyped c S = (before further : Types) × Fits before (named_in S) (run_of S)
    × (scope_after c before ≡ Ok further)

-- The run gives a rule, and the further items declare it under the name; what names stand for stays. Or
-- the run stops as is told.
abbrev pub TellsAccepted : meaning.Outcome Rule → Name → Evaluation → Result (Unit {0}) Stop → Evaluation
    → Type 0
TellsAccepted o n S (Ok x) e = (R : Rule) × (o ≡ (Ok R, run_of e)) × (named_in e ≡ named_in S)
    × ItemsTell S.list e.list (declares n R ∷ [])
TellsAccepted o n S (Err s) e = TellsStop o s e

-- The run of a command's parts does this, or stops as is told.
abbrev pub TellsDoing : meaning.Outcome (command.Done × meaning.Environment) → Evaluation
    → Result Done Stop → Evaluation → Type 0
TellsDoing o S (Ok d) e = TellsDone o S d e
TellsDoing o S (Err s) e = TellsStop o s e

-- The run gives what a value shows, or ends as is told.
abbrev pub TellsShown : meaning.Outcome command.Done → Result Done End → Evaluation → Type 0
TellsShown o (Ok d) e = (m : command.Done) × IsShown e d m × (o ≡ (Ok m, run_of e))
TellsShown o (Err end) e = TellsEnd o end e

-- what a value shows that is to be a judgement, or a list of them
abbrev pub shown_part : meaning.Value → meaning.Run command.Done
shown_part v = as_judgement v >>= λ j. pure (command.Shown (j ∷ []))

abbrev pub shown_list : meaning.Value → meaning.Run command.Done
shown_list v = as_judgements v >>= λ js. pure (command.Shown js)

-- the entries that are shown
abbrev pub shown_by : Done → List ℕ
shown_by (done.Shown js) = js.items
shown_by d = []

-- it stops since memory was refused
abbrev pub IsMemoryStop : Stop → Type 0
IsMemoryStop (stop.Ends end) = IsMemory end
IsMemoryStop (stop.Refuses at f) = ⊥

-- it does not stop since a value is not of the kind that its form needs
abbrev pub IsNotStuck : Stop → Type 0
IsNotStuck (stop.Ends (ending.Halts h)) = h.why ≢ halting.Stuck
IsNotStuck s = Unit {0}

-- the reason of an evaluation's halt, as that of a command, which is not stuck
abbrev pub halt_why : Why → EvalWhy
halt_why (halting.Refused r) = why.Refused r
halt_why halting.NoMatch = why.NoMatch
halt_why halting.Spent = why.Spent
halt_why halting.Stuck = why.Memory
halt_why halting.Memory = why.Memory

-- with entries marked as shown
abbrev pub with_marks : List ℕ → Evaluation → Evaluation
with_marks js e = record e {
  list = record { trees = e.list.trees; items = e.list.items ++ map shown js };
}
