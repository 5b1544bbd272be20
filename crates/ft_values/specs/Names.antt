-- The names of entries with their values.
use Rattle.std.specs.Prelude.{◌≡◌, List, [], ◌∷◌}
use Rattle.std.specs.Map.{lookup}
use Rattle.std.specs.Str.{bytes_eq}
use Rattle.ft_items.specs.Item.{Name}
use Rattle.ft_meaning.specs.Names.{named}
use Rattle.ft_values.specs.declared.names.Entry.{Entry}
use Rattle.ft_values.specs.declared.values.Value.{Value}

-- entries before some, the last one first
abbrev pub listed_before : List (Name × Value) → List Entry → List (Name × Value)
listed_before ns [] = ns
listed_before ns (x ∷ xs) = listed_before ((x.name, x.value) ∷ ns) xs

abbrev pub listed : List Entry → List (Name × Value)
listed xs = listed_before [] xs

-- the map has the last value of each name
pub record HasLast (xs : List Entry) (last : List (Name × Value)) : Type 0 where
  pub found : (n : Name) → lookup (bytes_eq n) last ≡ named (listed xs) n
