-- A derivation file of version 1, line by line.
use Rattle.std.specs.Prelude.{ℕ, cond, nat_eq, ◌≡◌, Bool, List, [], ◌∷◌, codes}
use Rattle.std.specs.Str.{encode_utf8_all}
use Rattle.ft_items.specs.Item.{Name, Item}
use Rattle.ft_items.specs.Texts.{ItemFits, line_text}

-- the lines with a byte more at the start of the first one
abbrev pub onto_first : ℕ → List (List ℕ) → List (List ℕ)
onto_first b [] = (b ∷ []) ∷ []
onto_first b (l ∷ ls) = (b ∷ l) ∷ ls

-- The lines of a file without their line feeds. The last of them is what stands after the last line feed; it is empty where the
-- file ends with one.
abbrev pub lines_in : List ℕ → List (List ℕ)
lines_in [] = [] ∷ []
lines_in (b ∷ bs) = cond (nat_eq b 10) ([] ∷ lines_in bs) (onto_first b (lines_in bs))

-- the first line, and the one after the items
abbrev pub first_line : List ℕ
first_line = codes "andromeda derivation 1"

abbrev pub last_line : List ℕ
last_line = codes "end"

-- the line is that of the item, which can be written
abbrev pub IsLineOf : (Name → Bool) → List ℕ → Item → Type 0
IsLineOf is_name l i = ItemFits is_name i × (l ≡ encode_utf8_all (line_text i))

-- these lines are those of the items, then `end`, then nothing
abbrev pub AreLinesAfterFirst : (Name → Bool) → List (List ℕ) → List Item → Type 0
AreLinesAfterFirst is_name [] items = ⊥
AreLinesAfterFirst is_name (l ∷ ls) [] = (l ≡ last_line) × (ls ≡ [] ∷ [])
AreLinesAfterFirst is_name (l ∷ ls) (i ∷ items) = IsLineOf is_name l i × AreLinesAfterFirst is_name ls items

-- The lines are those of a file with these items: the first line, a line for each item, `end`, and nothing after it.
abbrev pub AreLinesOf : (Name → Bool) → List (List ℕ) → List Item → Type 0
AreLinesOf is_name [] items = ⊥
AreLinesOf is_name (l ∷ ls) items = (l ≡ first_line) × AreLinesAfterFirst is_name ls items
