-- How the worked rows are written.
use Rattle.std.specs.Prelude.{ℕ, ◌≡◌, List, [], ◌∷◌, ◌++◌}
use Rattle.ft_meaning.specs.Texts.{Text}
use Rattle.ft_meaning.specs.Stages.{Stage, all_built}
use Rattle.ft_meaning.specs.Transcript.{Transcript, IsTranscriptAt}

-- lines, each with its line feed
abbrev pub lines : List Text → Text
lines [] = []
lines (l ∷ ls) = l ++ 10 ∷ lines ls

-- A row: the lines of a source, a budget of units, the lines that are written, and the status.
pub record Row : Type 0 where
  pub source : List Text
  pub budget : ℕ
  pub written : List Text
  pub status : ℕ

-- the budget of rows that say nothing of it
abbrev pub plenty : ℕ
plenty = 1000000

-- at the stage the source has a transcript within the budget, of this text and this status
abbrev pub Writes : Stage → Text → ℕ → Text → ℕ → Type 0
Writes B source budget text status = (t : Transcript) × IsTranscriptAt B source budget t × (t.text ≡ text) × (t.status ≡ status)

-- the source of the row has a transcript of its lines and its status
abbrev pub HoldsAt : Stage → Row → Type 0
HoldsAt B r = Writes B (lines r.source) r.budget (lines r.written) r.status

-- the same for the whole language
abbrev pub Holds : Row → Type 0
Holds = HoldsAt all_built

-- each row holds
abbrev pub AllHold : List Row → Type 0
AllHold [] = Unit {0}
AllHold (r ∷ rs) = Holds r × AllHold rs

-- the row holds, by a transcript that uses so many units
abbrev pub HoldsWith : Row → ℕ → Type 0
HoldsWith r units =
    (t : Transcript) × IsTranscriptAt all_built (lines r.source) r.budget t × (t.text ≡ lines r.written) × (t.status ≡ r.status) × (t.units ≡ units)
