-- The items that are stated over a table of expressions.
use Rattle.std.specs.Prelude.{ℕ, List, [], ◌∷◌, map}
use Rattle.ft_theory.specs.Expressions.{Expression}
use Rattle.ft_items.specs.Item.{Item, variable, metavariable, rule, entry, shown}
use Rattle.ft_judge.specs.Meaning.{thesis_in, boundary_in, ThesisBelow, BoundaryBelow}
use Rattle.ft_stated.specs.Steps.{stated_step}
use Rattle.ft_stated.specs.declared.stated.Stated.{Stated}
use Rattle.ft_stated.specs.declared.stated.Stated.TheVariants.{Var, Met, Rule, Thesis, Boundary, Shown}

-- what is seen of the items of a file: the trees of their table, and the list of them
pub record Listing : Type 0 where
  pub trees : List Expression
  pub items : List Item

-- the item that is stated over the trees of a table
abbrev pub item_in : List Expression → Stated → Item
item_in ts (Var v n p) = variable v n p
item_in ts (Met n p) = metavariable n p
item_in ts (Rule n ms p) = rule n ms p
item_in ts (Thesis x S s) = entry (record { statement = thesis_in ts x; set = S; step = stated_step s })
item_in ts (Boundary x S s) = entry (record { statement = boundary_in ts x; set = S; step = stated_step s })
item_in ts (Shown p) = shown p

-- the items that are stated
abbrev pub items_in : List Expression → List Stated → List Item
items_in ts xs = map (item_in ts) xs

-- each expression of what is stated is among the first n trees
abbrev pub StatedBelow : ℕ → Stated → Type 0
StatedBelow n (Var v x p) = Unit {0}
StatedBelow n (Met x p) = Unit {0}
StatedBelow n (Rule x ms p) = Unit {0}
StatedBelow n (Thesis x S s) = ThesisBelow n x
StatedBelow n (Boundary x S s) = BoundaryBelow n x
StatedBelow n (Shown p) = Unit {0}

-- each expression of all that is stated is among the first n trees
abbrev pub AllStatedBelow : ℕ → List Stated → Type 0
AllStatedBelow n [] = Unit {0}
AllStatedBelow n (x ∷ xs) = StatedBelow n x × AllStatedBelow n xs
