-- The text of a step, from its word and its parts.
use Rattle.std.specs.Prelude.{ℕ, List, ◌∷◌, ◌++◌, codes, map}
use Rattle.std.specs.List.{flat_map}
use Rattle.ft_items.specs.Texts.{spaced, Part, number, part_text}

-- the parts, with a space before each
abbrev pub parts_text : List Part → List ℕ
parts_text ps = flat_map (λ y. codes " " ++ y) (map part_text ps)

-- the word and the parts
abbrev pub worded_text : List ℕ → List Part → List ℕ
worded_text word ps = spaced (word ∷ map part_text ps)

-- a list of numbers as parts
abbrev pub numbers : List ℕ → List Part
numbers ns = map number ns
