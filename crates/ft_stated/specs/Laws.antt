-- Laws of what is stated over a table that goes on.
use Rattle.std.specs.Prelude.{ℕ, ◌≡◌, refl, List, [], ◌∷◌, ◌++◌, length}
use Rattle.std.proofs.Common.{ap, ap₂}
use Rattle.ft_theory.specs.Expressions.{Expression}
use Rattle.ft_items.specs.Item.{entry}
use Rattle.ft_syntax.specs.Table.{Extends}
use Rattle.ft_judge.specs.Laws.{thesis_below_extends, boundary_below_extends, thesis_extends, boundary_extends}
use Rattle.ft_stated.specs.Steps.{stated_step}
use Rattle.ft_stated.specs.Lines.{item_in, items_in, StatedBelow, AllStatedBelow}
use Rattle.ft_stated.specs.declared.stated.Stated.{Stated}
use Rattle.ft_stated.specs.declared.stated.Stated.TheVariants.{Var, Met, Rule, Thesis, Boundary, Shown}

-- what is stated over a table is within one that goes on from it
pub stated_below_extends : (ts us : List Expression) (x : Stated) → Extends ts us → StatedBelow (length ts) x → StatedBelow (length us) x
stated_below_extends ts us (Var v n p) on h = tt
stated_below_extends ts us (Met n p) on h = tt
stated_below_extends ts us (Rule n ms p) on h = tt
stated_below_extends ts us (Thesis x S s) on h = thesis_below_extends ts us x on h
stated_below_extends ts us (Boundary x S s) on h = boundary_below_extends ts us x on h
stated_below_extends ts us (Shown p) on h = tt

pub all_stated_below_extends : (ts us : List Expression) (xs : List Stated) → Extends ts us → AllStatedBelow (length ts) xs → AllStatedBelow (length us) xs
all_stated_below_extends ts us [] on h = tt
all_stated_below_extends ts us (x ∷ xs) on h = (stated_below_extends ts us x on h.0, all_stated_below_extends ts us xs on h.1)

-- one more
pub all_stated_push : (n : ℕ) (xs : List Stated) (x : Stated) → AllStatedBelow n xs → StatedBelow n x → AllStatedBelow n (xs ++ x ∷ [])
all_stated_push n [] x h g = (g, tt)
all_stated_push n (y ∷ xs) x h g = (h.0, all_stated_push n xs x h.1 g)

-- it states the same items over a table that goes on
pub item_extends : (ts us : List Expression) (x : Stated) → Extends ts us → StatedBelow (length ts) x → item_in us x ≡ item_in ts x
item_extends ts us (Var v n p) on h = refl
item_extends ts us (Met n p) on h = refl
item_extends ts us (Rule n ms p) on h = refl
item_extends ts us (Thesis x S s) on h = ap (λ z. entry (record { statement = z; set = S; step = stated_step s })) (thesis_extends ts us x on h)
item_extends ts us (Boundary x S s) on h = ap (λ z. entry (record { statement = z; set = S; step = stated_step s })) (boundary_extends ts us x on h)
item_extends ts us (Shown p) on h = refl

pub items_extend : (ts us : List Expression) (xs : List Stated) → Extends ts us → AllStatedBelow (length ts) xs → items_in us xs ≡ items_in ts xs
items_extend ts us [] on h = refl
items_extend ts us (x ∷ xs) on h = ap₂ (λ i is. i ∷ is) (item_extends ts us x on h.0) (items_extend ts us xs on h.1)
