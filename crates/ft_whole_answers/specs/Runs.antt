-- What `run` and `export` write for the bytes of a source within a budget, with the status.
use Rattle.std.specs.Prelude.{ℕ, ◌≡◌, None, List, [], encode_utf8_all}
use Rattle.ft_base.specs.Names.{is_name_token}
use Rattle.ft_items.specs.Item.{Item}
use Rattle.ft_items.specs.Texts.{IsTextOf, text_of as lines_of}
use Rattle.ft_meaning.specs.Texts.{Text}
use Rattle.ft_meaning.specs.Events.{Event, IsDerivationOf}
use Rattle.ft_meaning.specs.Stages.{Stage, no_equality, first_unbuilt}
use Rattle.ft_meaning.specs.Sources.{Content, commands}
use Rattle.ft_meaning.specs.Transcript.{Transcript, IsTranscriptAt}

-- what the program has of the language: all but the equality checker
abbrev pub built : Stage
built = no_equality

-- a transcript of the bytes within the budget, as the program has the language
abbrev pub IsTranscript : Text → ℕ → Transcript → Type 0
IsTranscript = IsTranscriptAt built

-- What `run` writes: the text of a transcript, with its status.
pub record IsRunText (bytes : Text) (budget : ℕ) (text : Text) (status : ℕ) : Type 0 where
  pub transcript : Transcript
  pub of_bytes : IsTranscript bytes budget transcript
  pub lines : text ≡ transcript.text
  pub ending : status ≡ transcript.status

-- the content is commands that are run: each part of them is built
abbrev pub IsRun : Content → Type 0
IsRun (commands cs) = first_unbuilt built cs ≡ None
IsRun content = ⊥

-- The text is that of a derivation of these events.
pub record IsDerivationText (text : Text) (done : List Event) : Type 0 where
  pub items : List Item
  pub derivation : IsDerivationOf items done
  pub written : IsTextOf is_name_token text items

-- The file of a run: the text of a derivation of what was done. Where no command is run it is
-- empty.
pub data IsFile (content : Content) (done : List Event) : Text → Type 0 where
  of_run : (text : Text) → IsRun content → IsDerivationText text done → IsFile content done text
  of_none : (IsRun content → ⊥) → IsFile content done []

-- What `export` writes: the file of the run, with the status that `run` has.
pub record IsExport (bytes : Text) (budget : ℕ) (text : Text) (status : ℕ) : Type 0 where
  pub transcript : Transcript
  pub of_bytes : IsTranscript bytes budget transcript
  pub file : IsFile of_bytes.0 transcript.events text
  pub ending : status ≡ transcript.status

-- The text is the lines of a derivation of the run. So much is known of a file that was not written whole.
pub record IsDraft (bytes : Text) (budget : ℕ) (text : Text) : Type 0 where
  pub transcript : Transcript
  pub of_bytes : IsTranscript bytes budget transcript
  pub run : IsRun of_bytes.0
  pub items : List Item
  pub derivation : IsDerivationOf items transcript.events
  pub lines : text ≡ encode_utf8_all (lines_of items)
