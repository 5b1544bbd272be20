-- How a text is made of its tokens, and what a list of tokens keeps.
use Rattle.std.specs.Prelude.{◌≡◌, ◌≤◌, ◌<◌, ℕ, ◌+◌, ◌&&◌, Bool, true, false, not, IsTrue, List, [], ◌∷◌, ◌++◌, codes, decimal}
use Rattle.std.specs.List.{list_all}
use Rattle.std.specs.Char.{len_utf8}
use Rattle.ft_base.specs.Names.{is_name_token}
use Rattle.ft_base.specs.Words.{spelling_of}
use Rattle.ft_grammar.specs.declared.token.Kind.{Kind}
use Rattle.ft_grammar.specs.declared.token.Kind.TheVariants.{Name, Number, Word, Mark, Bad, End}
use Rattle.ft_grammar.specs.declared.token.Mark.{Mark as AnyMark}
use Rattle.ft_grammar.specs.declared.token.Mark.TheVariants as mark
use Rattle.ft_grammar.specs.declared.token.Token.{Token}
use Rattle.ft_grammar.specs.Fronts.{is_space, is_no_line_feed}
use Rattle.ft_grammar.specs.Tokens.{width}

-- the characters of a mark
abbrev pub mark_spelling : AnyMark → List ℕ
mark_spelling mark.LeftParen = codes "("
mark_spelling mark.RightParen = codes ")"
mark_spelling mark.LeftBrace = codes "{"
mark_spelling mark.RightBrace = codes "}"
mark_spelling mark.Comma = codes ","
mark_spelling mark.Colon = codes ":"
mark_spelling mark.DoubleColon = codes "::"
mark_spelling mark.Equals = codes "="
mark_spelling mark.DoubleEquals = codes "=="
mark_spelling mark.Arrow = codes "->"
mark_spelling mark.Bar = codes "|"
mark_spelling mark.Star = codes "*"
mark_spelling mark.At = codes "@"
mark_spelling mark.Underscore = codes "_"

-- the characters spell a token of this kind; a bad one may be any characters
abbrev pub IsSpelled : Kind → List ℕ → Type 0
IsSpelled (Name name) spelling = (spelling ≡ name) × IsTrue (is_name_token name)
IsSpelled (Number n) spelling = (spelling ≡ decimal n) × (n ≤ 65535)
IsSpelled (Word w) spelling = spelling ≡ spelling_of w
IsSpelled (Mark m) spelling = spelling ≡ mark_spelling m
IsSpelled Bad spelling = Unit {0}
IsSpelled End spelling = ⊥

-- nothing follows, or a line feed
abbrev pub IsLineEnd : List ℕ → Type 0
IsLineEnd [] = Unit {0}
IsLineEnd (c ∷ cs) = c ≡ 10

-- from a place on, a text is white space, comments and the spellings of these tokens, in this order, and each character
-- stands in exactly one of them; the token `End` stands at the end of the text
pub data IsMadeOf : ℕ → List ℕ → List Token → Type 0 where
  at_end : (at : ℕ) → IsMadeOf at [] (record { kind = End; start = at; end = at } ∷ [])
  space : (at c : ℕ) (rest : List ℕ) (tokens : List Token) → IsTrue (is_space c) → IsMadeOf (at + len_utf8 c) rest tokens → IsMadeOf at (c ∷ rest) tokens
  comment : (at : ℕ) (line rest : List ℕ) (tokens : List Token) → IsTrue (list_all is_no_line_feed line) → IsLineEnd rest → IsMadeOf (at + width (codes "--" ++ line)) rest tokens → IsMadeOf at (codes "--" ++ line ++ rest) tokens
  token : (at : ℕ) (kind : Kind) (c : ℕ) (cs rest : List ℕ) (tokens : List Token) → IsSpelled kind (c ∷ cs) → IsMadeOf (at + width (c ∷ cs)) rest tokens → IsMadeOf at (c ∷ cs ++ rest) (record { kind = kind; start = at; end = at + width (c ∷ cs) } ∷ tokens)

-- whether a kind is `End`
abbrev pub is_end : Kind → Bool
is_end End = true
is_end _ = false

-- whether there is a last token, it is `End`, and no other token is
abbrev pub is_ended : List Token → Bool
is_ended [] = false
is_ended (t ∷ []) = is_end t.kind
is_ended (t ∷ u ∷ us) = not (is_end t.kind) && is_ended (u ∷ us)

-- the tokens begin and end in their order, from one place to another, and each but `End` ends behind its start
abbrev pub IsRising : ℕ → List Token → ℕ → Type 0
IsRising low [] high = low ≤ high
IsRising low (t ∷ ts) high = (low ≤ t.start) × (t.start ≤ t.end) × (is_end t.kind ≡ false → t.start < t.end) × IsRising t.end ts high

-- the tokens without the last one
abbrev pub without_last : List Token → List Token
without_last [] = []
without_last (t ∷ []) = []
without_last (t ∷ u ∷ us) = t ∷ without_last (u ∷ us)

-- a token, so many bytes further on
abbrev pub moved_token : ℕ → Token → Token
moved_token bytes t = record { kind = t.kind; start = bytes + t.start; end = bytes + t.end }
