-- A source of plain characters is a text, and has the commands that are read of its tokens.
use Rattle.std.proofs.Common.{◌≡◌, ◌∙◌, sym, subst, ℕ, ◌<◌, List, Ok, Err, true, arith, slice_index_or}
use Rattle.std.specs.List.{list_all}
use Rattle.std.specs.Str.{chars, IsAscii, IsUtf8}
use Rattle.std.proofs.lemmas.Str.{IsUtf8-from_ascii}
use Rattle.std.proofs.lemmas.Str.Ascii.{IsAscii-from_all}
use Rattle.std.proofs.lemmas.List.Sums.{AllPass-from_list_all}
use Rattle.ft_common.proofs.Results.{err_ok}
use Rattle.ft_grammar.specs.Tokens.{tokens_of}
use Rattle.ft_applications.specs.declared.fault.Fault.{Fault}
use Rattle.ft_applications_meaning.specs.declared.syntax.Command.{Command}
use Rattle.ft_applications_meaning.specs.Grammar.{kinds}
use Rattle.ft_applications.specs.Reading.{source}
use Rattle.ft_applications_meaning.specs.Transcript.{IsPlainSource, is_plain_character}
use Rattle.ft_applications.proofs.Back.{reads, one_tree}
use Rattle.ft_applications.proofs.SoundCommands.{sound}

plain_below : (c : ℕ) → is_plain_character c ≡ true → c < 128
plain_below c h = grind arith

pub plain_is_ascii : (bs : List ℕ) → list_all is_plain_character bs ≡ true → IsAscii bs
plain_is_ascii bs h = IsAscii-from_all bs (λ k d below. plain_below (slice_index_or bs k d) (AllPass-from_list_all is_plain_character bs h k d below))

pub plain_utf8 : (bs : List ℕ) → list_all is_plain_character bs ≡ true → IsUtf8 bs
plain_utf8 bs h = IsUtf8-from_ascii bs (plain_is_ascii bs h)

pub source_is : (bs text : List ℕ) (cs : List Command) → text ≡ bs → list_all is_plain_character bs ≡ true → source (kinds (tokens_of (chars text))) ≡ Ok cs → IsPlainSource bs cs
source_is bs text cs same plain h = record { characters = plain; grammar = sound cs (kinds (tokens_of (chars bs))) (subst (λ t. source (kinds (tokens_of (chars t))) ≡ Ok cs) same h) }

pub no_source : (bs text : List ℕ) (cs : List Command) (e : Fault) → text ≡ bs → source (kinds (tokens_of (chars text))) ≡ Err e → IsPlainSource bs cs → ⊥
no_source bs text cs e same h s = err_ok e cs (sym (subst (λ t. source (kinds (tokens_of (chars t))) ≡ Err e) same h) ∙ reads cs _ s.grammar)

-- bytes are the source of one list of commands
pub one_source : (bs : List ℕ) (cs ds : List Command) → IsPlainSource bs cs → IsPlainSource bs ds → ds ≡ cs
one_source bs cs ds s t = one_tree ds cs (kinds (tokens_of (chars bs))) t.grammar s.grammar

pub only_source : (bs text : List ℕ) (cs ds : List Command) → text ≡ bs → list_all is_plain_character bs ≡ true → source (kinds (tokens_of (chars text))) ≡ Ok cs → IsPlainSource bs ds → ds ≡ cs
only_source bs text cs ds same plain h t = one_source bs cs ds (source_is bs text cs same plain h) t
