-- How the call of a job goes, in all that is known of its input and its output.
use Rattle.std.specs.Prelude.{ℕ, ◌≡◌, ◌<◌, ◌≤◌, ◌⊎◌, List, [], length, Option, Some, IfSome}
use Rattle.std.specs.Str.{encode_utf8_all}
use Rattle.ft_base.specs.Names.{is_name_token}
use Rattle.ft_items.specs.Item.{Item}
use Rattle.ft_items.specs.Good.{Counts, Accepted}
use Rattle.ft_items.specs.Texts.{IsTextOf, text_of as file_of}
use Rattle.ft_verdicts.specs.Verdicts.{IsVerdict, verdict_line}
use Rattle.ft_streams.specs.Streams.{Rose, Appends, AppendsPrefix, IsAtEnd}
use Rattle.ft_applications_meaning.specs.declared.syntax.Command.{Command}
use Rattle.ft_applications_meaning.specs.Events.{Event, events}
use Rattle.ft_applications_meaning.specs.Histories.{IsDerivationOf}
use Rattle.ft_applications_meaning.specs.Transcript.{IsPlainSource, AllDerivable, shown_in, text_of, status_of, not_yet_line}
use Rattle.ft_answers.specs.declared.words.Job.{Job}
use Rattle.ft_answers.specs.declared.words.Job.TheVariants as job
use Rattle.ft_answers.specs.declared.status.Status.{Status}
use Rattle.ft_answers.specs.declared.status.Status.TheVariants as status
use Rattle.ft_answers.specs.Words.{limit, ReadsSource}
use Rattle.ft_answers.specs.Statuses.{IsOfInput, IsOverLimit, Ends, read_line, too_long_line, line_for, number_of}
use Rattle.ft_top.specs.Causes.{IsCauseOfReading}
use Rattle.ft_answers.specs.Exports.{BreaksOff}
use Rattle.ft_answers.specs.Answer.{IsText}

-- the bytes are the source of no commands that are built
abbrev pub IsNotBuilt : List ℕ → Type 0
IsNotBuilt bytes = (cs : List Command) (es : List Event) → IsPlainSource bytes cs → events [] cs ≡ Some es → ⊥

-- what the source of the bytes shows is derivable
abbrev pub ShowsDerivable : List ℕ → Type 0
ShowsDerivable bytes = (cs : List Command) (es : List Event) → IsPlainSource bytes cs → events [] cs ≡ Some es → AllDerivable (shown_in es)

-- The source of the bytes was run: its transcript, a derivation of its run, and its status.
pub record IsRun (bytes text : List ℕ) (items : List Item) (status : ℕ) : Type 0 where
  pub commands : List Command
  pub done : List Event
  pub source : IsPlainSource bytes commands
  pub built : events [] commands ≡ Some done
  pub lines : text ≡ text_of done
  pub ending : status ≡ status_of done
  pub derivation : IsDerivationOf items done

-- the file of the items was written, and the status answered; or a beginning of the file, where the sink failed or memory was refused
abbrev pub WritesFile : List Item → ℕ → ℕ → Option (List ℕ) → Option (List ℕ) → Type 0
WritesFile items status result before after =
    ((result ≡ status) × IsTextOf is_name_token (encode_utf8_all (file_of items)) items × Appends before (encode_utf8_all (file_of items)) after)
    ⊎ (((result ≡ 4) ⊎ (result ≡ 17)) × AppendsPrefix before (encode_utf8_all (file_of items)) after)

-- Why a job has no text of its own: its input is not had, or is a source that is not built. `rest` is what is still to come.
abbrev pub IsCause : Job → Option (List ℕ) → Option (List ℕ) → ℕ → ℕ → ℕ → ℕ → Status → Type 0
IsCause j left rest taken taken' faults later status.Syntax = ReadsSource j × IsAtEnd rest × IfSome left (λ bytes. (length bytes ≤ limit j) × IsNotBuilt bytes)
IsCause j left rest taken taken' faults later s = IsCauseOfReading j left taken taken' faults later s

-- `check` accepts the text, where it is exported
abbrev pub IsAcceptedExport : Job → List ℕ → Type 0
IsAcceptedExport job.Export text = (c : Counts) × IsVerdict is_name_token text (verdict_line (Accepted c)) 0
IsAcceptedExport _ text = Unit {0}

-- What is known of the bytes of an input that was read whole, with the text and the status for it: the text is that of the job, what a
-- source shows is derivable, and `check` accepts an export.
abbrev pub IsKnown : Job → List ℕ → Status → List ℕ → Type 0
IsKnown j text s bytes = (length bytes ≤ limit j) × IsText j bytes text (number_of s) × (ReadsSource j → ShowsDerivable bytes) × IsAcceptedExport j text

-- and so where the source tells its bytes
abbrev pub IsOfBytes : Job → Option (List ℕ) → List ℕ → Status → Type 0
IsOfBytes j left text s = IfSome left (IsKnown j text s)

-- a beginning of the text for the bytes was written
abbrev pub IsBegun : Job → List ℕ → Option (List ℕ) → Option (List ℕ) → Type 0
IsBegun job.Export bytes before after = BreaksOff bytes before after
IsBegun j bytes before after = (text : List ℕ) × (status : ℕ) × IsText j bytes text status × AppendsPrefix before text after

-- what was written where memory was refused: nothing, or by `export` a beginning
abbrev pub IsLeft : Job → Option (List ℕ) → Option (List ℕ) → Option (List ℕ) → Type 0
IsLeft job.Export left before after = (after ≡ before) ⊎ IfSome left (λ bytes. (length bytes ≤ limit job.Export) × BreaksOff bytes before after)
IsLeft _ left before after = after ≡ before

-- How the call of a job goes: a read fails, the input is too long, the source is not built, the text for the input is written, or
-- a beginning of it where the sink failed, or memory is refused.
pub data IsCall (j : Job) (left rest : Option (List ℕ)) (taken taken' faults later : ℕ) (before after : Option (List ℕ)) (result : ℕ) : Type 0 where
  of_fault : Rose faults later → Ends (line_for j read_line) 3 result before after → IsCall j left rest taken taken' faults later before after result
  of_length : IsOverLimit j taken taken' → IfSome left (λ bytes. limit j < length bytes)
      → Ends (line_for j too_long_line) 5 result before after → IsCall j left rest taken taken' faults later before after result
  of_another : ReadsSource j → IsAtEnd rest → IfSome left (λ bytes. (length bytes ≤ limit j) × IsNotBuilt bytes)
      → Ends (line_for j not_yet_line) 7 result before after → IsCall j left rest taken taken' faults later before after result
  of_text : (s : Status) (text : List ℕ) → IsOfInput j s → IsAtEnd rest → IsOfBytes j left text s
      → result ≡ number_of s → Appends before text after → IsCall j left rest taken taken' faults later before after result
  of_break : result ≡ 4 → IfSome left (λ bytes. (length bytes ≤ limit j) × IsBegun j bytes before after × (ReadsSource j → ShowsDerivable bytes))
      → IsCall j left rest taken taken' faults later before after result
  of_memory : result ≡ 17 → IsLeft j left before after → IsCall j left rest taken taken' faults later before after result
