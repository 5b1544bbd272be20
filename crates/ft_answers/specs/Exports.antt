-- What `export` writes for a source, with its status.
use Rattle.std.specs.Prelude.{ℕ, ◌≡◌, List, [], Option, Some}
use Rattle.std.specs.Str.{encode_utf8_all}
use Rattle.ft_base.specs.Names.{is_name_token}
use Rattle.ft_items.specs.Item.{Item}
use Rattle.ft_items.specs.Texts.{IsTextOf, text_of as file_of}
use Rattle.ft_streams.specs.Streams.{AppendsPrefix}
use Rattle.ft_applications_meaning.specs.declared.syntax.Command.{Command}
use Rattle.ft_applications_meaning.specs.Events.{Event, events}
use Rattle.ft_applications_meaning.specs.Transcript.{IsPlainSource, status_of}
use Rattle.ft_applications_meaning.specs.Histories.{IsDerivationOf}

-- What `export` writes for a source, with its status: the text of a derivation of its run; nothing where it is not in the language.
pub data IsExport (bytes : List ℕ) : List ℕ → ℕ → Type 0 where
  of_run : (cs : List Command) (es : List Event) (items : List Item) (text : List ℕ) → IsPlainSource bytes cs → events [] cs ≡ Some es
      → IsDerivationOf items es → IsTextOf is_name_token text items → IsExport bytes text (status_of es)
  of_another : ((cs : List Command) (es : List Event) → IsPlainSource bytes cs → events [] cs ≡ Some es → ⊥) → IsExport bytes [] 7

-- What `export` leaves where it breaks off: after what was written before, a beginning of the lines of a derivation of the run.
pub record BreaksOff (bytes : List ℕ) (before after : Option (List ℕ)) : Type 0 where
  pub commands : List Command
  pub done : List Event
  pub items : List Item
  pub source : IsPlainSource bytes commands
  pub built : events [] commands ≡ Some done
  pub derivation : IsDerivationOf items done
  pub front : AppendsPrefix before (encode_utf8_all (file_of items)) after
