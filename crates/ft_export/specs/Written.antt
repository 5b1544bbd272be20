-- What is written of a list of items.
use Rattle.std.specs.Prelude.{ℕ, ◌≡◌, Option, Some, List, ◌++◌, encode_utf8_all}
use Rattle.ft_base.specs.Names.{is_name_token}
use Rattle.ft_items.specs.Item.{Item}
use Rattle.ft_items.specs.Store.{nth}
use Rattle.ft_items.specs.Texts.{line_text, ItemFits}
use Rattle.ft_streams.specs.Streams.{Appends}

-- the line of an item, which can be written, comes after what was there
abbrev pub AppendsLine : Item → List ℕ → List ℕ → Type 0
AppendsLine i old new = ItemFits is_name_token i × (new ≡ old ++ encode_utf8_all (line_text i))

-- the same of the item at a place
abbrev pub AppendsLineAt : List Item → ℕ → List ℕ → List ℕ → Type 0
AppendsLineAt items k old new = (i : Item) × (nth items k ≡ Some i) × AppendsLine i old new

-- the text was written but for what is left of it
abbrev pub WritesUpTo : Option (List ℕ) → List ℕ → List ℕ → Option (List ℕ) → Type 0
WritesUpTo before text left after = (piece : List ℕ) × (text ≡ piece ++ left) × Appends before piece after
