-- The transcript: what `run` writes for a source, with its status.
use Rattle.std.specs.Prelude.{ℕ, ◌≡◌, Bool, true, List, [], ◌∷◌, ◌++◌, Some, codes, ◌||◌, ◌&&◌, ◌==◌, nat_le}
use Rattle.std.specs.Str.{chars}
use Rattle.std.specs.List.{list_all}
use Rattle.ft_theory.specs.Statements.{Claim, plain}
use Rattle.ft_theory.specs.Rules.{Rule}
use Rattle.ft_theory.specs.Steps.{Prim}
use Rattle.ft_grammar.specs.Tokens.{tokens_of}
use Rattle.ft_applications_meaning.specs.declared.syntax.Command.{Command}
use Rattle.ft_applications_meaning.specs.Grammar.{kinds, AreCommands}
use Rattle.ft_applications_meaning.specs.Texts.{name_text, claim_text}
use Rattle.ft_applications_meaning.specs.Building.{theory, names}
use Rattle.ft_applications_meaning.specs.Events.{Event, accepts, repeats, shows, events, run_of}

-- a letter or a digit of ASCII, a space, a line feed, a parenthesis or a colon
abbrev pub is_plain_character : ℕ → Bool
is_plain_character c =
    (nat_le 97 c && nat_le c 122) || (nat_le 65 c && nat_le c 90) || (nat_le 48 c && nat_le c 57)
    || c == 32 || c == 10 || c == 40 || c == 41 || c == 58

-- the bytes are the source of these commands: plain characters, and tokens of the grammar
pub record IsPlainSource (bytes : List ℕ) (cs : List Command) : Type 0 where
  pub characters : list_all is_plain_character bytes ≡ true
  pub grammar : AreCommands cs (kinds (tokens_of (chars bytes)))

-- a line feed
abbrev pub line_feed : List ℕ
line_feed = 10 ∷ []

-- the line of an accepted rule
abbrev pub accepted_line : List ℕ → List ℕ
accepted_line n = codes "accepted " ++ name_text n ++ line_feed

-- the line of a thesis shown, whose context is empty
abbrev pub shown_line : List (List ℕ) → Claim → List ℕ
shown_line ns c = codes "|- " ++ claim_text ns c ++ line_feed

-- the line of a rule of the name of an earlier one
abbrev pub repeated_line : List ℕ → List ℕ
repeated_line n = codes "error rule " ++ name_text n ++ codes " declared twice" ++ line_feed

-- the lines of a run, one for each command; the first rule of the name of an earlier one has the last line
abbrev pub text_of : List Event → List ℕ
text_of [] = []
text_of (accepts d ∷ es) = accepted_line d.name ++ text_of es
text_of (repeats n ∷ es) = repeated_line n
text_of (shows ds c ∷ es) = shown_line (names ds) c ++ text_of es

-- the status of a run: 9 where a rule has the name of an earlier one, else 0
abbrev pub status_of : List Event → ℕ
status_of [] = 0
status_of (accepts d ∷ es) = status_of es
status_of (repeats n ∷ es) = 9
status_of (shows ds c ∷ es) = status_of es

-- a thesis is shown, with the rules accepted before its line
pub record Shown : Type 0 where
  pub rules : List Rule
  pub thesis : Claim

-- the theses that are shown, in their order
abbrev pub theses : List Event → List Shown
theses [] = []
theses (accepts d ∷ es) = theses es
theses (repeats n ∷ es) = theses es
theses (shows ds c ∷ es) = record { rules = theory ds; thesis = c } ∷ theses es

-- the theses that are shown in a run
abbrev pub shown_in : List Event → List Shown
shown_in es = theses (run_of es)

-- the thesis is primitively derivable over the rules, in the empty context
abbrev pub IsDerivable : Shown → Type 0
IsDerivable s = Prim s.rules [] [] (plain s.thesis)

-- each of the theses shown is derivable
abbrev pub AllDerivable : List Shown → Type 0
AllDerivable [] = Unit {0}
AllDerivable (s ∷ ss) = IsDerivable s × AllDerivable ss

-- the line of a source that is not in the language
abbrev pub not_yet_line : List ℕ
not_yet_line = codes "error not yet" ++ line_feed

-- The transcript of a source: where its commands are built, the lines of their run, with its status; else one line, with
-- status 7.
pub data IsTranscript (bytes : List ℕ) : List ℕ → ℕ → Type 0 where
  of_commands : (cs : List Command) (es : List Event) → IsPlainSource bytes cs → events [] cs ≡ Some es → IsTranscript bytes (text_of es) (status_of es)
  of_another : ((cs : List Command) (es : List Event) → IsPlainSource bytes cs → events [] cs ≡ Some es → ⊥) → IsTranscript bytes not_yet_line 7
