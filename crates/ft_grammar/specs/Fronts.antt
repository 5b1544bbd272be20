-- What stands at the front of a text. A text is the list of its characters.
use Rattle.std.specs.Prelude.{ℕ, suc, ◌==◌, ◌&&◌, ◌||◌, Bool, false, not, if◌then◌else◌, nat_lt, List, [], ◌∷◌, take, Option, Some, None}
use Rattle.std.specs.Char.{is_ascii_digit}
use Rattle.unicode_ident.specs.Ident.{is_xid_continue}
pub use Rattle.ft_common.specs.Digits.{run, decimal_value, has_leading_zero}
use Rattle.ft_base.specs.Names.{starts_name, is_name_token}
use Rattle.ft_base.specs.Words.{word_of}
use Rattle.ft_base.specs.declared.word.Word.{Word as AnyWord}
use Rattle.ft_grammar.specs.declared.token.Kind.{Kind}
use Rattle.ft_grammar.specs.declared.token.Kind.TheVariants.{Name, Number, Word, Mark, Bad}
use Rattle.ft_grammar.specs.declared.token.Mark.TheVariants as mark

-- whether white space: space, tab, carriage return and line feed
abbrev pub is_space : ℕ → Bool
is_space c = c == 32 || c == 9 || c == 13 || c == 10

-- whether the characters begin with the two hyphens of a comment
abbrev pub begins_comment : ℕ → List ℕ → Bool
begins_comment c [] = false
begins_comment c (d ∷ cs) = c == 45 && d == 45

-- whether a comment goes on over the character
abbrev pub is_no_line_feed : ℕ → Bool
is_no_line_feed c = not (c == 10)

-- the word that was found, or else the underscore
abbrev pub word_or_mark : Option AnyWord → Kind
word_or_mark (Some w) = Word w
word_or_mark None = Mark mark.Underscore

-- characters that begin as a name and go on as one are that name where they are a name token; else they are one of the words,
-- or the lone underscore, which is a mark
abbrev pub name_kind : List ℕ → Kind
name_kind spelling = if is_name_token spelling then Name spelling else word_or_mark (word_of spelling)

-- what a run of digits is: a number where it has no leading zero and is at most 65,535
abbrev pub number_kind : List ℕ → Kind
number_kind digits =
    if has_leading_zero digits || nat_lt 65535 (decimal_value 0 digits) then Bad else Number (decimal_value 0 digits)

-- the mark of one character
abbrev pub mark_kind : ℕ → Kind
mark_kind c =
    if c == 40 then Mark mark.LeftParen
    else (if c == 41 then Mark mark.RightParen
    else (if c == 123 then Mark mark.LeftBrace
    else (if c == 125 then Mark mark.RightBrace
    else (if c == 44 then Mark mark.Comma
    else (if c == 58 then Mark mark.Colon
    else (if c == 61 then Mark mark.Equals
    else (if c == 124 then Mark mark.Bar
    else (if c == 42 then Mark mark.Star
    else (if c == 64 then Mark mark.At
    else Bad)))))))))

-- the longest mark at the front, and how many characters it has; a character that begins none is bad
abbrev pub mark_front : ℕ → List ℕ → Kind × ℕ
mark_front c [] = (mark_kind c, 1)
mark_front c (d ∷ cs) =
    if c == 58 && d == 58 then (Mark mark.DoubleColon, 2)
    else (if c == 61 && d == 61 then (Mark mark.DoubleEquals, 2)
    else (if c == 45 && d == 62 then (Mark mark.Arrow, 2)
    else (mark_kind c, 1)))

-- what a text begins with that has a first character and others, and how many characters that has; None where it is white
-- space or a comment
abbrev pub front : ℕ → List ℕ → Option Kind × ℕ
front c cs =
    if is_space c then (None, 1)
    else (if begins_comment c cs then (None, suc (run is_no_line_feed cs))
    else (if starts_name c then (Some (name_kind (c ∷ take (run is_xid_continue cs) cs)), suc (run is_xid_continue cs))
    else (if is_ascii_digit c then (Some (number_kind (c ∷ take (run is_ascii_digit cs) cs)), suc (run is_ascii_digit cs))
    else (Some (mark_front c cs).0, (mark_front c cs).1))))
