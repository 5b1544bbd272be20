-- What a job writes for the bytes of its input, with the status.
use Rattle.std.specs.Prelude.{ℕ, ◌<◌, ◌≤◌, length}
use Rattle.ft_base.specs.Names.{is_name_token}
use Rattle.ft_verdicts.specs.Verdicts.{IsVerdict}
use Rattle.ft_meaning.specs.Texts.{Text}
use Rattle.ft_answers.specs.declared.wanted.Wanted.{Wanted}
use Rattle.ft_answers.specs.declared.wanted.Wanted.TheVariants.{Run, Export, Check}
use Rattle.ft_whole_answers.specs.declared.status.Status.{Status}
use Rattle.ft_whole_answers.specs.declared.status.Status.TheVariants as status
use Rattle.ft_whole_answers.specs.Statuses.{too_long_line}
use Rattle.ft_whole_answers.specs.Runs.{IsRunText, IsExport, IsDraft}

-- What `check` writes for the bytes of a file, which may be so many at most: the verdict on its
-- items, or its fault; and a line of its own where they are too many.
pub data IsCheckText (bytes : Text) (most : ℕ) : Text → ℕ → Type 0 where
  of_file : length bytes ≤ most → (text : Text) (n : ℕ) → IsVerdict is_name_token bytes text n
      → IsCheckText bytes most text n
  of_length : most < length bytes → IsCheckText bytes most too_long_line 5

-- What the job writes for the bytes, with the status. A source that is too long has its transcript.
abbrev pub IsText : Wanted → Text → Text → ℕ → Type 0
IsText (Run budget) bytes text n = IsRunText bytes budget text n
IsText (Export budget) bytes text n = IsExport bytes budget text n
IsText (Check one_thread) bytes text n = IsCheckText bytes 67108864 text n

-- A text of which the job writes a beginning, where it breaks off.
abbrev pub IsBegun : Wanted → Text → Text → Type 0
IsBegun (Run budget) bytes text = (n : ℕ) × IsRunText bytes budget text n
IsBegun (Export budget) bytes text = IsDraft bytes budget text
IsBegun (Check one_thread) bytes text = (n : ℕ) × IsCheckText bytes 67108864 text n

-- the status is one that the run of a source ends with
abbrev pub IsOfRun : Status → Type 0
IsOfRun status.Done = Unit {0}
IsOfRun status.NotUtf8 = Unit {0}
IsOfRun status.Syntax = Unit {0}
IsOfRun status.NameOrType = Unit {0}
IsOfRun status.Rule = Unit {0}
IsOfRun status.Unhandled = Unit {0}
IsOfRun status.Refused = Unit {0}
IsOfRun status.NoMatch = Unit {0}
IsOfRun status.Spent = Unit {0}
IsOfRun s = ⊥

-- the status is one that a verdict has
abbrev pub IsOfCheck : Status → Type 0
IsOfCheck status.Done = Unit {0}
IsOfCheck status.Rejected = Unit {0}
IsOfCheck status.File = Unit {0}
IsOfCheck s = ⊥

-- the status is one that the job has where its input was read to its end
abbrev pub IsOfInput : Wanted → Status → Type 0
IsOfInput (Run budget) s = IsOfRun s
IsOfInput (Export budget) s = IsOfRun s
IsOfInput (Check one_thread) s = IsOfCheck s
