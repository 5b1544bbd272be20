-- The items before a place.
use Rattle.std.specs.Prelude.{ℕ, List, take}
use Rattle.ft_items.specs.Item.{Item}
use Rattle.ft_items.specs.Store.{Declarations, Store, declared_by, store_of}
use Rattle.ft_items.specs.Good.{Good}

-- the items before place i are a good list
abbrev pub GoodBefore : ℕ → List Item → Type 0
GoodBefore i items = Good (take i items)

-- what they declare
abbrev pub declared_before : ℕ → List Item → Declarations
declared_before i items = declared_by (take i items)

-- their store
abbrev pub store_before : ℕ → List Item → Store
store_before i items = store_of (take i items)
