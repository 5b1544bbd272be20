-- Worked rows: sources that are no text, or not in the grammar, and two that are in it.
use Rattle.std.specs.Prelude.{ℕ, ◌<◌, List, [], ◌∷◌, ◌++◌, length, codes, encode_utf8_all}
use Rattle.std.specs.List.{repeat}
use Rattle.ft_meaning.specs.Texts.{Text}
use Rattle.ft_meaning.specs.Sources.{greatest_length}
use Rattle.ft_meaning.specs.Stages.{Stage}
use Rattle.ft_meaning_rows.specs.Written.{Row, plenty, lines, Writes}

-- a word that is not expected
abbrev pub misspelled : Row
misspelled = record {
  source = codes "rule Nat tipe" ∷ [];
  budget = plenty;
  written = codes "error 1:10 syntax" ∷ [];
  status = 7;
}

-- a form in so many parentheses
abbrev pub in_parentheses : ℕ → Text
in_parentheses n = codes "show " ++ repeat n (codes "(") ++ codes "O" ++ repeat n (codes ")")

-- as many parentheses as are allowed
abbrev pub nested : Row
nested = record {
  source =
      codes "rule Nat type" ∷
      codes "rule O : Nat" ∷
      in_parentheses 199 ∷
      [];
  budget = plenty;
  written =
      codes "accepted Nat" ∷
      codes "accepted O" ∷
      codes "|- O : Nat" ∷
      [];
  status = 0;
}

-- one more
abbrev pub nested_too_deeply : Row
nested_too_deeply = record {
  source =
      codes "rule Nat type" ∷
      codes "rule O : Nat" ∷
      in_parentheses 200 ∷
      [];
  budget = plenty;
  written = codes "error 3:206 nested too deeply" ∷ [];
  status = 7;
}

-- a name that is not ASCII; columns count characters
abbrev pub wide_name : Row
wide_name = record {
  source =
      encode_utf8_all (codes "rule ℕ type") ∷
      encode_utf8_all (codes "show (ℕ, x)") ∷
      [];
  budget = plenty;
  written =
      encode_utf8_all (codes "accepted ℕ") ∷
      codes "error 2:10 unbound x" ∷
      [];
  status = 8;
}

-- seven spaces, and a byte that no UTF-8 has
abbrev pub not_text : Row
not_text = record {
  source = (codes "       " ++ 255 ∷ []) ∷ [];
  budget = plenty;
  written = codes "error not utf-8 at byte 7" ∷ [];
  status = 6;
}

-- the rows
abbrev pub syntax : List Row
syntax = misspelled ∷ nested ∷ nested_too_deeply ∷ wide_name ∷ not_text ∷ []

-- any source with more bytes than a source may have, whatever is in it, at any stage
abbrev pub TooLong : Type 0
TooLong = (B : Stage) (source : Text) (budget : ℕ) → greatest_length < length source
    → Writes B source budget (lines (codes "error too long" ∷ [])) 5
