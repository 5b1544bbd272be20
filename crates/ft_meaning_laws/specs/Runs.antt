-- What holds of sources and of their transcripts.
use Rattle.std.specs.Prelude.{ℕ, ◌≡◌, ◌≢◌, None, List, ◌++◌}
use Rattle.ft_meaning.specs.Trees.{Command}
use Rattle.ft_meaning.specs.Values.{Environment, State}
use Rattle.ft_meaning.specs.Typing.{Scope}
use Rattle.ft_meaning.specs.Texts.{Text}
use Rattle.ft_meaning.specs.Sources.{commands, HasContent}
use Rattle.ft_meaning.specs.Events.{Event}
use Rattle.ft_meaning.specs.Stages.{Stage, all_built, first_unbuilt}
use Rattle.ft_meaning.specs.Transcript.{Transcript, stuck_status, transcript_from, transcript_of, IsTranscriptAt}

-- there is exactly one with P
abbrev pub ExactlyOne : {A : Type 0} → (A → Type 0) → Type 0
ExactlyOne {A} P = ((a : A) × P a) × ((a b : A) → P a → P b → a ≡ b)

-- The bytes of a source have exactly one content.
abbrev pub OneContent : Type 0
OneContent = (source : Text) → ExactlyOne (HasContent source)

-- A source has exactly one transcript within a budget, at each stage.
abbrev pub OneTranscript : Type 0
OneTranscript = (B : Stage) (source : Text) (budget : ℕ) → ExactlyOne (IsTranscriptAt B source budget)

-- No transcript tells of a run that is stuck, whatever the stage, the source and the budget.
abbrev pub NeverStuck : Type 0
NeverStuck = (B : Stage) (source : Text) (budget : ℕ) (t : Transcript) → IsTranscriptAt B source budget t → t.status ≢ stuck_status

-- the first transcript is a beginning of the second: its text, and its events
pub record Begins (t u : Transcript) : Type 0 where
  pub text : Text
  pub lines : u.text ≡ t.text ++ text
  pub further : List Event
  pub events : u.events ≡ t.events ++ further

-- The transcript of commands is a beginning of that with further commands after them.
abbrev pub LinesGoOn : Type 0
LinesGoOn = (source : Text) (cs ds : List Command) (scope : Scope) (G : Environment) (s : State)
    → Begins (transcript_from source cs scope G s) (transcript_from source (cs ++ ds) scope G s)

-- Where commands end with another status than 0, further commands change nothing.
abbrev pub RunsEnd : Type 0
RunsEnd = (source : Text) (cs ds : List Command) (scope : Scope) (G : Environment) (s : State)
    → (transcript_from source cs scope G s).status ≢ 0 → transcript_from source (cs ++ ds) scope G s ≡ transcript_from source cs scope G s

-- Where each part of the commands is built at a stage, their transcript is that of the whole language.
abbrev pub StagesAgree : Type 0
StagesAgree = (B : Stage) (source : Text) (budget : ℕ) (cs : List Command)
    → first_unbuilt B cs ≡ None → transcript_of B source budget (commands cs) ≡ transcript_of all_built source budget (commands cs)
