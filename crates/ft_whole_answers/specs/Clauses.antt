-- What is claimed of each call. Each claim is short; all follow from how a call goes and from laws.
use Rattle.std.specs.Prelude.{ℕ, ◌≡◌, ◌≤◌, ◌+◌, ◌⊎◌, Bool, List, Some}
use Rattle.ft_base.specs.Names.{is_name_token}
use Rattle.ft_items.specs.Item.{Item}
use Rattle.ft_items.specs.Store.{Derivable}
use Rattle.ft_items.specs.Good.{Reject, Counts, Accepted, Rejected, verdict}
use Rattle.ft_items.specs.Texts.{IsTextOf}
use Rattle.ft_items.specs.Faults.{Fault, HasFault}
use Rattle.ft_sound.specs.Soundness.{EachEntry}
use Rattle.ft_streams.specs.Streams.{NoFaultUnless}
use Rattle.ft_verdicts.specs.Verdicts.{IsVerdict, verdict_line}
use Rattle.ft_meaning.specs.Texts.{Text}
use Rattle.ft_meaning.specs.Events.{Event}
use Rattle.ft_meaning.specs.Transcript.{Transcript}
use Rattle.ft_answers.specs.declared.wanted.Wanted.{Wanted}
use Rattle.ft_answers.specs.declared.wanted.Wanted.TheVariants.{Export, Check}
use Rattle.ft_whole_answers.specs.Statuses.{IsStatus}
use Rattle.ft_whole_answers.specs.Asking.{IsAsked, IsNoJob, limit, RunsWithin}
use Rattle.ft_whole_answers.specs.Runs.{IsTranscript, IsExport}
use Rattle.ft_whole_answers.specs.Answers.{IsText}
use Rattle.ft_whole_answers.specs.Calls.{Call, ReadFails, WriteFails, TakesTooMany, Writes}

-- The job was asked for, and the source told these bytes.
pub record IsGiven (c : Call) (job : Wanted) (bytes : Text) : Type 0 where
  pub asked : IsAsked c.words job
  pub told : c.input.left ≡ Some bytes

-- What the call answers: where no read and no write fails, the text of the job for the bytes is
-- written and its status answered, or memory was refused.
abbrev pub Answers : Call → Type 0
Answers c = (job : Wanted) (bytes : Text) → IsGiven c job bytes
    → (ReadFails c → ⊥) → (WriteFails c → ⊥)
    → (c.result ≡ 17) ⊎ ((text : Text) × IsText job bytes text c.result × Writes c text)

-- Every answer has its cause.
pub record HasCause (c : Call) : Type 0 where
  pub status : IsStatus c.result
  pub usage : c.result ≡ 2 → IsNoJob c.words
  pub read : c.result ≡ 3 → ReadFails c
  pub write : c.result ≡ 4 → WriteFails c
  pub long : c.result ≡ 5 → (job : Wanted) × IsAsked c.words job × TakesTooMany job c

-- After a read or a write that failed no other is tried, and only 3 and 4 can be answered. At most
-- one byte more than the limit is taken.
pub record StopsAtFaults (c : Call) : Type 0 where
  pub reads : NoFaultUnless ((c.result ≡ 3) ⊎ (c.result ≡ 4))
      c.input.faults c.input_after.faults c.input_after.failed
  pub writes : NoFaultUnless (c.result ≡ 4)
      c.output.faults c.output_after.faults c.output_after.failed
  pub most : (job : Wanted) → IsAsked c.words job
      → c.input_after.taken ≤ c.input.taken + limit job + 1

-- P holds of what the source of the call does within its budget, where the job is to run it.
abbrev pub OfRun : Call → (List Event → Type 0) → Type 0
OfRun c P = (job : Wanted) (bytes : Text) (budget : ℕ) (t : Transcript)
    → IsGiven c job bytes → RunsWithin job budget → IsTranscript bytes budget t → P t.events

-- a run ended with this status: all was done, or a command has a fault
abbrev pub IsOfEndedRun : ℕ → Type 0
IsOfEndedRun n = (n ≡ 0) ⊎ ((8 ≤ n) × (n ≤ 14))

-- `check` accepts the text
abbrev pub IsAccepted : Text → Type 0
IsAccepted text = (k : Counts) × IsVerdict is_name_token text (verdict_line (Accepted k)) 0

-- What is exported of a run that ended is accepted by `check`.
abbrev pub Exports : Call → Type 0
Exports c = (budget : ℕ) (bytes : Text) → IsGiven c (Export budget) bytes → IsOfEndedRun c.result
    → (text : Text) × IsExport bytes budget text c.result × Writes c text × IsAccepted text

-- The bytes are the text of a list that is accepted, and each of its entries is derivable by
-- primitive steps over the rules before it.
pub record TellsAccepted (bytes : Text) : Type 0 where
  pub items : List Item
  pub counts : Counts
  pub text : IsTextOf is_name_token bytes items
  pub accepted : verdict items ≡ Accepted counts
  pub derivable : EachEntry (λ W e. Derivable W e.statement e.set) items

-- The bytes are the text of a list that is rejected.
pub record TellsRejected (bytes : Text) : Type 0 where
  pub items : List Item
  pub item : ℕ
  pub why : Reject
  pub text : IsTextOf is_name_token bytes items
  pub rejected : verdict items ≡ Rejected item why

-- what the status of a verdict tells of the file
pub record TellsFile (n : ℕ) (bytes : Text) : Type 0 where
  pub accepted : n ≡ 0 → TellsAccepted bytes
  pub rejected : n ≡ 15 → TellsRejected bytes
  pub filed : n ≡ 16 → (fault : Fault) × HasFault is_name_token bytes fault

-- What the status of `check` tells of the file.
abbrev pub Checks : Call → Type 0
Checks c = (one_thread : Bool) (bytes : Text) → IsGiven c (Check one_thread) bytes
    → TellsFile c.result bytes
