-- What named values are over a list of items.
use Rattle.std.specs.Prelude.{ℕ, List, [], ◌∷◌}
use Rattle.ft_items.specs.Item.{Name}
use Rattle.ft_kernel.specs.State.{State}
use Rattle.ft_meaning.specs.Values as meaning
use Rattle.ft_values.specs.Kept.{Kept, value_of, IsOver}
use Rattle.ft_values.specs.Rows.{kept_in, Below}
use Rattle.ft_values.specs.declared.values.Value.{Value}

-- the value of a known one, over a list of items and the values of a table
abbrev pub value_in : State → List Kept → Value → meaning.Value
value_in s ks v = value_of s (kept_in ks v)

-- the named values that names with known ones stand for
abbrev pub environment_in : State → List Kept → List (Name × Value) → meaning.Environment
environment_in s ks [] = []
environment_in s ks (p ∷ ps) = (p.0, value_in s ks p.1) ∷ environment_in s ks ps

-- the values of these names are among the first n rows
abbrev pub NamesBelow : ℕ → List (Name × Value) → Type 0
NamesBelow n [] = Unit {0}
NamesBelow n (p ∷ ps) = Below n p.1 × NamesBelow n ps

-- the values of these names are over the list
abbrev pub NamesOver : State → List Kept → List (Name × Value) → Type 0
NamesOver s ks [] = Unit {0}
NamesOver s ks (p ∷ ps) = IsOver s (kept_in ks p.1) × NamesOver s ks ps
