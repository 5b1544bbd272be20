-- The run of a source, command by command: what is still to come, and what each step does.
use Rattle.std.specs.Prelude.{ℕ, ◌≡◌, ◌≢◌, List, [], All, map, reverse, Some, Result, Ok, Err}
use Rattle.ft_base.specs.declared.memory.Memory.{Memory}
use Rattle.ft_meaning.specs.Trees.{Command, command_of}
use Rattle.ft_meaning.specs.Texts.{Text}
use Rattle.ft_meaning.specs.Events.{Event, told_by_event}
use Rattle.ft_meaning.specs.Stages.{no_equality}
use Rattle.ft_meaning.specs.Transcript.{Transcript, transcript_from, preceded, over, after_command}
use Rattle.ft_meaning.specs.Transcript.{halted, IsTranscriptAt}
use Rattle.ft_meaning.specs.Lines.{error_line, done_lines}
use Rattle.ft_meaning.specs.Faults.{type_why_text, fault_text}
use Rattle.ft_meaning.specs.Values.{Halt, OfRule}
use Rattle.ft_meaning.specs.Typing.{Scope}
use Rattle.ft_meaning.specs.CommandTyping.{scope_after}
use Rattle.ft_meaning.specs.Commands.{run_command}
use Rattle.ft_meaning.specs.Commands as command
use Rattle.ft_items.specs.Item.{Name}
use Rattle.ft_items.specs.Store.{Declarations, declared_by}
use Rattle.ft_reference.specs.Declare.{RuleFault as AnyFault}
use Rattle.ft_rules.specs.declared.fault.RuleFault.{RuleFault}
use Rattle.ft_drafting.specs.Drafting.{reason}
use Rattle.ft_kernel.specs.State.{State}
use Rattle.ft_types.specs.Checking.{why_of}
use Rattle.ft_types.specs.declared.fault.TypeFault.{TypeFault}
use Rattle.ft_types.specs.declared.fault.TypeWhy.TheVariants as why
use Rattle.ft_commands.specs.declared.done.Done.{Done}
use Rattle.ft_commands.specs.declared.done.EvalFault.{EvalFault}
use Rattle.ft_commands.specs.declared.done.EvalWhy.TheVariants as halting
use Rattle.ft_meaning_laws.specs.Fits.{Fits}
use Rattle.ft_eval.specs.CommandsAsking.{CommandAsksNothing}
use Rattle.ft_running.specs.Evaluation.{Evaluation, run_of}
use Rattle.ft_commands.specs.Doing.{named_in, ItemsTell, IsDone, IsOver, halt_for}
use Rattle.ft_values.specs.Kept.{HasMore}
use Rattle.ft_whole_answers.specs.Statuses.{number_of}
use Rattle.ft_whole_answers.specs.declared.status.Status.{Status}
use Rattle.ft_program.specs.declared.commands.Run.{Run}
use Rattle.ft_program.specs.declared.commands.Step.{Step}
use Rattle.ft_program.specs.declared.commands.Step.TheVariants as step
use Rattle.ft_program.specs.declared.whole.Written.{Written}

-- the commands that are still to be run, in their order
abbrev pub commands_left : Run → List Command
commands_left r = map command_of (reverse r.rest.items)

-- The state fits the scope, and the commands that are left ask nothing of the equality checker.
pub record IsReady (r : Run) : Type 0 where
  pub fits : Fits r.scope (named_in r.state) (run_of r.state)
  pub asks : All CommandAsksNothing (commands_left r)

-- what the transcript of a source has still to come
abbrev pub ahead : Text → Run → Transcript
ahead source r = transcript_from source (commands_left r) r.scope (named_in r.state) (run_of r.state)

-- From the list s on, where this transcript is still to come: the step gives the lines of a command, after
-- which the run goes on, and the further items tell what the command did; or the run is over, with a last
-- text and a status, and the further items tell nothing.
abbrev pub StepsFrom : Text → Transcript → State → Result Step Memory → Run → Type 0
StepsFrom source t s (Ok (step.Lines x)) q = (es : List Event)
    × (t ≡ preceded x es (ahead source q))
    × ItemsTell s q.state.list (map told_by_event es) × IsReady q
StepsFrom source t s (Ok (step.Ends x st)) q =
    (t ≡ over x (number_of st) q.state.units.used) × ItemsTell s q.state.list []
StepsFrom source t s (Err m) q = HasMore s q.state.list

-- so for the next step of a run
abbrev pub Steps : Text → Run → Result Step Memory → Run → Type 0
Steps source r result q = StepsFrom source (ahead source r) r.state.list result q

-- what is to come of a command that has a type, before those that are left
abbrev pub performed : Text → Command → Run → Transcript
performed source c r = after_command source c (run_command c (named_in r.state) (run_of r.state))
    (transcript_from source (commands_left r) r.scope)

-- The command has a type in a scope that the state fits, and the scope after it is that of the run.
abbrev pub IsTypedFor : Command → Run → Type 0
IsTypedFor c r = (before : Scope) × Fits before (named_in r.state) (run_of r.state)
    × (scope_after c before ≡ Ok r.scope)

-- the line and the status of a command that has no type
abbrev pub IsUntyped : Text → TypeFault → Step → Type 0
IsUntyped source f (step.Lines x) = ⊥
IsUntyped source f (step.Ends x st) = (f.why ≢ why.Memory)
    × (x ≡ error_line source f.at (type_why_text (why_of f.why))) × (number_of st ≡ 8)

-- the lines of what a command tells
abbrev pub IsTold : Evaluation → Done → Step → Type 0
IsTold e d (step.Lines x) = (m : command.Done) → IsDone e d m → x ≡ done_lines (declared_by e.list.items) m
IsTold e d (step.Ends x st) = ⊥

-- the line and the status of a command that halts
abbrev pub IsHalted : Text → Command → Evaluation → EvalFault → Step → Type 0
IsHalted source c e f (step.Lines x) = ⊥
IsHalted source c e f (step.Ends x st) = (f.why ≢ halting.Memory)
    × ((h : Halt) → halt_for e.list.trees f.at f.why ≡ Some h
    → halted source c h (run_of e) ≡ over x (number_of st) e.units.used)

-- the command tells something, and it halts with a reason, where memory was not refused
abbrev pub IsTelling : Evaluation → Done → Type 0
IsTelling e d = (m : command.Done) × IsDone e d m

abbrev pub IsHalting : Evaluation → EvalFault → Type 0
IsHalting e f = f.why ≢ halting.Memory → IsOver e.list.trees f.why
    × (h : Halt) × (halt_for e.list.trees f.at f.why ≡ Some h)

-- the step gives lines
abbrev pub IsLines : Step → Type 0
IsLines (step.Lines x) = Unit {0}
IsLines (step.Ends x st) = ⊥

-- the step gives the line of a fault at a place, with its status
abbrev pub IsEnding : Text → ℕ → Text → Status → Step → Type 0
IsEnding source at why st (step.Lines x) = ⊥
IsEnding source at why st (step.Ends x t) = (x ≡ error_line source at why) × (t ≡ st)

-- the text is why no rule of a name is declared
abbrev pub IsRuleText : Declarations → Name → RuleFault → Text → Type 0
IsRuleText W n f t = (why : AnyFault) → reason f ≡ Some why → t ≡ fault_text W n (OfRule why)

-- what was written, with its status, is that of the transcript
abbrev pub Writes : Written → Transcript → Type 0
Writes w t = (w.text ≡ t.text) × (number_of w.status ≡ t.status)

-- What was written, with its status, is the transcript of the bytes within the budget.
abbrev pub IsTranscriptOf : Text → ℕ → Written → Type 0
IsTranscriptOf bytes budget w =
    (t : Transcript) × IsTranscriptAt no_equality bytes budget t × Writes w t
