-- The transcript of a source: what `run` writes, with its status, what the run did, and the units that it used.
use Rattle.std.specs.Prelude.{ℕ, ◌≡◌, Option, Some, None, List, [], ◌∷◌, ◌++◌, Result, Ok, Err, codes, decimal}
use Rattle.ft_items.specs.Item.{Name}
use Rattle.ft_items.specs.Store.{no_declarations}
use Rattle.ft_equality.specs.Shapes.{no_rules}
use Rattle.ft_meaning.specs.Trees.{Command, rule_command}
use Rattle.ft_meaning.specs.Values.{Environment, State, Halt, fails, spent, stuck}
use Rattle.ft_meaning.specs.Commands.{Done, run_command}
use Rattle.ft_meaning.specs.Typing.{TypeFault, Scope, first_scope}
use Rattle.ft_meaning.specs.CommandTyping.{scope_after}
use Rattle.ft_meaning.specs.Texts.{Text}
use Rattle.ft_meaning.specs.Faults.{fault_text, fault_status, type_why_text}
use Rattle.ft_meaning.specs.Lines.{line, error_line, done_lines}
use Rattle.ft_meaning.specs.Events.{Event, events_of}
use Rattle.ft_meaning.specs.Stages.{Stage, all_built, first_unbuilt}
use Rattle.ft_meaning.specs.Sources.{Content, too_long, no_text, unexpected, too_nested, commands, HasContent}

-- the lines, the status, the events in their order, and the units used
pub record Transcript : Type 0 where
  pub text : Text
  pub status : ℕ
  pub events : List Event
  pub units : ℕ

-- the run is over, with a last text and a status
abbrev pub over : Text → ℕ → ℕ → Transcript
over t status units = record { text = t; status = status; events = []; units = units }

-- lines and events come first
abbrev pub preceded : Text → List Event → Transcript → Transcript
preceded t es r = record { text = t ++ r.text; status = r.status; events = es ++ r.events; units = r.units }

-- the name of the rule that a command declares
abbrev pub rule_name : Command → Name
rule_name (rule_command at n ps c_at c) = n.name
rule_name c = []

-- the status of a run that is stuck, which no run is
abbrev pub stuck_status : ℕ
stuck_status = 255

-- a command halts the run
abbrev pub halted : Text → Command → Halt → State → Transcript
halted source c (fails why at) s = over (error_line source at (fault_text s.declarations (rule_name c) why)) (fault_status why) s.units.used
halted source c (spent at) s = over (error_line source at (codes "budget spent")) 13 s.units.used
halted source c stuck s = over [] stuck_status s.units.used

-- a command that was run, and those after it
abbrev pub after_command : Text → Command → Result (Done × Environment) Halt × State → (Environment → State → Transcript) → Transcript
after_command source c (Ok d, s) next = preceded (done_lines s.declarations d.0) (events_of s.declarations d.0) (next d.1 s)
after_command source c (Err h, s) next = halted source c h s

-- a command that was typed is run; one that has no type ends the run
abbrev pub after_typing : Text → Result Scope TypeFault → ℕ → (Scope → Transcript) → Transcript
after_typing source (Ok scope) units next = next scope
after_typing source (Err f) units next = over (error_line source f.at (type_why_text f.why)) 8 units

-- commands in their order, each typed just before it is run
abbrev pub transcript_from : Text → List Command → Scope → Environment → State → Transcript
transcript_from source [] scope G s = over [] 0 s.units.used
transcript_from source (c ∷ cs) scope G s =
    after_typing source (scope_after c scope) s.units.used (λ further. after_command source c (run_command c G s) (transcript_from source cs further))

-- the state before the first command
abbrev pub start : ℕ → State
start budget = record { declarations = no_declarations; equality_rules = no_rules; units = record { used = 0; left = budget } }

-- the run, where every part is built; else the first part that is not is told
abbrev pub unless_unbuilt : Text → ℕ → List Command → Option ℕ → Transcript
unless_unbuilt source budget cs None = transcript_from source cs first_scope [] (start budget)
unless_unbuilt source budget cs (Some at) = over (error_line source at (codes "not yet")) 7 0

-- The transcript of a source of this content, at a stage, within a budget of units.
abbrev pub transcript_of : Stage → Text → ℕ → Content → Transcript
transcript_of B source budget too_long = over (line (codes "error too long")) 5 0
transcript_of B source budget (no_text n) = over (line (codes "error not utf-8 at byte " ++ decimal n)) 6 0
transcript_of B source budget (unexpected at) = over (error_line source at (codes "syntax")) 7 0
transcript_of B source budget (too_nested at) = over (error_line source at (codes "nested too deeply")) 7 0
transcript_of B source budget (commands cs) = unless_unbuilt source budget cs (first_unbuilt B cs)

-- a transcript of the source within the budget, at a stage
abbrev pub IsTranscriptAt : Stage → Text → ℕ → Transcript → Type 0
IsTranscriptAt B source budget t = (content : Content) × HasContent source content × (t ≡ transcript_of B source budget content)

-- a transcript of the source within the budget, in the whole language
abbrev pub IsTranscript : Text → ℕ → Transcript → Type 0
IsTranscript = IsTranscriptAt all_built
