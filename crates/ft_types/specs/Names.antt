-- What names stand for.
use Rattle.std.specs.Prelude.{◌≡◌, List, [], ◌∷◌}
use Rattle.std.specs.Map.{lookup}
use Rattle.std.specs.Str.{bytes_eq}
use Rattle.ft_items.specs.Item.{Name}
use Rattle.ft_meaning.specs.Names.{named}
use Rattle.ft_types.specs.declared.names.Entry.{Entry}

-- entries before some, the last one first
abbrev pub listed_before : {A : Type 0} → List (Name × A) → List (Entry A) → List (Name × A)
listed_before ns [] = ns
listed_before ns (x ∷ xs) = listed_before ((x.name, x.meaning) ∷ ns) xs

abbrev pub listed : {A : Type 0} → List (Entry A) → List (Name × A)
listed xs = listed_before [] xs

-- the map has the last meaning of each name
pub record HasLast {A : Type 0} (xs : List (Entry A)) (last : List (Name × A)) : Type 0 where
  pub found : (n : Name) → lookup (bytes_eq n) last ≡ named (listed xs) n
