-- The rows of a table: each names earlier rows, and its tree is small and that of no other. The arguments of all rows lie in
-- one list.
use Rattle.std.specs.Prelude.{ℕ, ◌<◌, ◌≡◌, List, [], ◌∷◌, ◌++◌, map, length, ◌≤◌, slice_range, slice_get, Option, Some}
use Rattle.ft_theory.specs.Expressions.{Expression}
use Rattle.ft_theory.specs.Small.{depth, size, IsSmall}
use Rattle.ft_syntax.specs.Arguments.{node_of, arguments_of, applied, FitsNode, IsApplication}
use Rattle.ft_syntax.specs.Table.{tree, argument_in, ArgumentsBelow, AreDifferent}
use Rattle.ft_syntax.specs.Chains.{IsFound}
use Rattle.ft_syntax.specs.declared.crowded.Crowded.{Crowded}
use Rattle.ft_syntax.specs.declared.syntax.Arg.{Arg}
use Rattle.ft_syntax.specs.declared.table.Row.{Row}

-- the row's arguments among those of all rows
abbrev pub own : List Arg → Row → List Arg
own parts r = slice_range parts r.first r.end

-- the tree of a row over the trees before it
abbrev pub row_tree : List Arg → List Expression → Row → Expression
row_tree parts ts r = applied r.node (map (argument_in ts) (own parts r))

-- the trees of a table: some trees, and then those of rows that follow
abbrev pub trees_after : List Arg → List Expression → List Row → List Expression
trees_after parts ts [] = ts
trees_after parts ts (r ∷ rs) = trees_after parts (ts ++ row_tree parts ts r ∷ []) rs

-- the row names earlier rows, and keeps its tree's depth and size
pub record IsGoodRow (parts : List Arg) (ts : List Expression) (r : Row) : Type 0 where
  pub ordered : r.first ≤ r.end
  pub there : r.end ≤ length parts
  pub below : ArgumentsBelow (length ts) (own parts r)
  pub fits : FitsNode r.node (map (argument_in ts) (own parts r))
  pub depth_is : r.depth ≡ depth (row_tree parts ts r)
  pub size_is : r.size ≡ size (row_tree parts ts r)
  pub small : IsSmall (row_tree parts ts r)

abbrev pub AreGoodRows : List Arg → List Expression → List Row → Type 0
AreGoodRows parts ts [] = Unit {0}
AreGoodRows parts ts (r ∷ rs) = IsGoodRow parts ts r × AreGoodRows parts (ts ++ row_tree parts ts r ∷ []) rs

-- each row is found by its mark or by its spelling
pub record AreFound (parts : List Arg) (rows : List Row) (ms : List (Option ℕ)) (c : Crowded) : Type 0 where
  pub as_many : length ms ≡ length rows
  pub found : (p : ℕ) (r : Row) → slice_get rows p ≡ Some r → IsFound ms c p r.node (own parts r)

-- a table: its rows are good, each tree has one row, and this one is found
pub record IsTable (parts : List Arg) (rows : List Row) (ms : List (Option ℕ)) (c : Crowded) : Type 0 where
  pub good : AreGoodRows parts [] rows
  pub different : AreDifferent (trees_after parts [] rows)
  pub found : AreFound parts rows ms c

-- the arguments of the expression at a place
pub record HasArguments (ts : List Expression) (e : ℕ) (xs : List Arg) : Type 0 where
  pub within : e < length ts
  pub is : arguments_of (tree ts e) ≡ map (argument_in ts) xs
  pub below : ArgumentsBelow e xs

-- the application at a place, and its arguments
pub record IsApplied (ts : List Expression) (e : ℕ) (xs : List Arg) : Type 0 where
  pub within : e < length ts
  pub application : IsApplication (node_of (tree ts e))
  pub is : arguments_of (tree ts e) ≡ map (argument_in ts) xs
  pub below : ArgumentsBelow e xs
