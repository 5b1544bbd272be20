-- What holds of transcripts, derivations and verdicts, over the definitions alone.
use Rattle.std.specs.Prelude.{ℕ, ◌≡◌, List, [], Some}
use Rattle.ft_base.specs.Names.{is_name_token}
use Rattle.ft_items.specs.Item.{Item}
use Rattle.ft_items.specs.Store.{Derivable}
use Rattle.ft_items.specs.Good.{counts, Accepted, verdict}
use Rattle.ft_items.specs.Texts.{IsTextOf}
use Rattle.ft_sound.specs.Soundness.{EachEntry}
use Rattle.ft_applications_meaning.specs.declared.syntax.Command.{Command}
use Rattle.ft_applications_meaning.specs.Events.{Event, events}
use Rattle.ft_applications_meaning.specs.Transcript.{IsPlainSource, IsTranscript, AllDerivable, shown_in, text_of, status_of}
use Rattle.ft_applications_meaning.specs.Histories.{IsDerivationOf}
use Rattle.ft_verdicts.specs.Verdicts.{IsVerdict, verdict_line}
use Rattle.ft_answers.specs.Exports.{IsExport}

-- The bytes are the text of a derivation of these events: each of its entries is derivable, and so is each thesis shown. Its verdict
-- is accepted with its counts, and that is what `check` writes.
pub record IsAccepted (text : List ℕ) (es : List Event) : Type 0 where
  pub items : List Item
  pub written : IsTextOf is_name_token text items
  pub derivation : IsDerivationOf items es
  pub shown : AllDerivable (shown_in es)
  pub derivable : EachEntry (λ W e. Derivable W e.statement e.set) items
  pub accepted : verdict items ≡ Accepted (counts items)
  pub line : IsVerdict is_name_token text (verdict_line (Accepted (counts items))) 0

-- A source whose commands are built has the transcript of its events, and what is exported of it has the same status and is
-- accepted.
abbrev pub Headline : Type 0
Headline = (bytes : List ℕ) (cs : List Command) (es : List Event) → IsPlainSource bytes cs → events [] cs ≡ Some es
    → IsTranscript bytes (text_of es) (status_of es) × ((text : List ℕ) (n : ℕ) → IsExport bytes text n → (n ≡ status_of es) × IsAccepted text es)

-- A file has at most one verdict.
abbrev pub OneVerdict : Type 0
OneVerdict = (bytes line other : List ℕ) (n m : ℕ) → IsVerdict is_name_token bytes line n → IsVerdict is_name_token bytes other m → (line ≡ other) × (n ≡ m)
