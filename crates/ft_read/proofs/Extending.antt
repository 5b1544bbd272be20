-- What is stated over a table that goes on, with one more.
use Rattle.std.proofs.Common.{◌≡◌, ◌∙◌, ap, List, [], ◌∷◌, ◌++◌, length, append_assoc}
use Rattle.std.proofs.lemmas.List.{map-append}
use Rattle.ft_theory.specs.Expressions.{Expression}
use Rattle.ft_items.specs.Item.{Item}
use Rattle.ft_syntax.specs.Table.{Extends}
use Rattle.ft_stated.specs.Laws.{all_stated_below_extends, all_stated_push, items_extend}
use Rattle.ft_stated.specs.Lines.{item_in, items_in, StatedBelow, AllStatedBelow}
use Rattle.ft_stated.specs.declared.stated.Stated.{Stated}

-- one more is below, over a table that goes on
pub below_next : (ts us : List Expression) (xs : List Stated) (x : Stated) → Extends ts us → AllStatedBelow (length ts) xs → StatedBelow (length us) x → AllStatedBelow (length us) (xs ++ x ∷ [])
below_next ts us xs x on h g = all_stated_push (length us) xs x (all_stated_below_extends ts us xs on h) g

-- the items with one more, over a table that goes on, and further ones behind
pub items_next : (ts us : List Expression) (xs : List Stated) (x : Stated) (more : List Item) → Extends ts us → AllStatedBelow (length ts) xs
    → items_in us (xs ++ x ∷ []) ++ more ≡ items_in ts xs ++ item_in us x ∷ more
items_next ts us xs x more on h =
    ap (λ is. is ++ more) (map-append (item_in us) xs (x ∷ []) ∙ ap (λ is. is ++ item_in us x ∷ []) (items_extend ts us xs on h))
    ∙ append_assoc (items_in ts xs) (item_in us x ∷ []) more
