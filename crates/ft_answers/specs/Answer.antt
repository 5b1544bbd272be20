-- What a call answers: the text for the words and for the input, with its status.
use Rattle.std.specs.Prelude.{ℕ, ◌<◌, ◌≤◌, List, length, Option}
use Rattle.ft_base.specs.Names.{is_name_token}
use Rattle.ft_streams.specs.Streams.{Rose, AppendsPrefix}
use Rattle.ft_applications_meaning.specs.Transcript.{IsTranscript}
use Rattle.ft_answers.specs.declared.words.Job.{Job}
use Rattle.ft_answers.specs.declared.words.Job.TheVariants as job
use Rattle.ft_answers.specs.Words.{IsAsked, IsNoJob, limit}
use Rattle.ft_answers.specs.Statuses.{usage_line, read_line, too_long_line, line_for}
use Rattle.ft_answers.specs.Exports.{IsExport, BreaksOff}
use Rattle.ft_verdicts.specs.Verdicts.{IsVerdict}

-- what a job writes for an input, with its status
abbrev pub IsText : Job → List ℕ → List ℕ → ℕ → Type 0
IsText job.Run bytes text status = IsTranscript bytes text status
IsText job.Export bytes text status = IsExport bytes text status
IsText job.Check bytes text status = IsVerdict is_name_token bytes text status

-- The text to be written and the status to be answered, for words, the bytes of the input, and the counts of the source's
-- faults before and after the call.
pub data IsAnswer (words : List (List ℕ)) (bytes : List ℕ) (faults later : ℕ) : List ℕ → ℕ → Type 0 where
  -- other words
  of_usage : IsNoJob words → IsAnswer words bytes faults later usage_line 2
  -- a read failed
  of_fault : (j : Job) → IsAsked words j → Rose faults later → IsAnswer words bytes faults later (line_for j read_line) 3
  -- the input is longer than it may be
  of_length : (j : Job) → IsAsked words j → limit j < length bytes → IsAnswer words bytes faults later (line_for j too_long_line) 5
  -- what the job writes for the input
  of_input : (j : Job) → IsAsked words j → length bytes ≤ limit j → (text : List ℕ) (status : ℕ) → IsText j bytes text status → IsAnswer words bytes faults later text status

-- What was written where the sink failed: a beginning of the text that the call has, or what `export` leaves.
pub data IsBroken (words : List (List ℕ)) (bytes : List ℕ) (faults later : ℕ) (before after : Option (List ℕ)) : Type 0 where
  of_answer : (text : List ℕ) (status : ℕ) → IsAnswer words bytes faults later text status → AppendsPrefix before text after → IsBroken words bytes faults later before after
  of_export : IsAsked words job.Export → length bytes ≤ limit job.Export → BreaksOff bytes before after → IsBroken words bytes faults later before after
