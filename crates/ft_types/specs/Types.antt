-- The types that rows stand for.
use Rattle.std.specs.Prelude.{ℕ, ◌≡◌, ◌<◌, List, [], ◌∷◌, ◌++◌, slice_index_or, slice_get, Option, Some, None, Bool}
use Rattle.std.specs.Map.{lookup}
use Rattle.ft_meaning.specs.Trees.{ValueType, judgement, boundary, unit, bool, pair, list, option}
use Rattle.ft_types.specs.contracts.types.RowPartialEq.TheImpl as row_eq
use Rattle.ft_types.specs.declared.types.KnownType.{KnownType}
use Rattle.ft_types.specs.declared.types.KnownType.TheVariants as known
use Rattle.ft_types.specs.declared.types.Row.{Row}
use Rattle.ft_types.specs.declared.types.Row.TheVariants as row

-- the type of a known one, over the types of the rows
abbrev pub type_in : List ValueType → KnownType → ValueType
type_in ts known.Judgement = judgement
type_in ts known.Boundary = boundary
type_in ts known.Unit = unit
type_in ts known.Bool = bool
type_in ts (known.Compound n) = slice_index_or ts n judgement

-- it names one of the first n rows, or none
abbrev pub Below : ℕ → KnownType → Type 0
Below n known.Judgement = Unit {0}
Below n known.Boundary = Unit {0}
Below n known.Unit = Unit {0}
Below n known.Bool = Unit {0}
Below n (known.Compound k) = k < n

-- the type of a row, over the types of the rows before it
abbrev pub type_at : List ValueType → Row → ValueType
type_at ts (row.Pair a b) = pair (type_in ts a) (type_in ts b)
type_at ts (row.List a) = list (type_in ts a)
type_at ts (row.Opt a) = option (type_in ts a)

-- the types after some, of rows that follow
abbrev pub types_after : List ValueType → List Row → List ValueType
types_after ts [] = ts
types_after ts (r ∷ rs) = types_after (ts ++ type_at ts r ∷ []) rs

abbrev pub types_of : List Row → List ValueType
types_of rows = types_after [] rows

-- A type by itself: the types of the rows of a table, and which of them it is.
pub record TypeInTable : Type 0 where
  pub types : List ValueType
  pub whole : KnownType

-- the type that it is
abbrev pub stands_for : TypeInTable → ValueType
stands_for s = type_in s.types s.whole

-- a row's parts are among the first n rows
abbrev pub FitsBelow : ℕ → Row → Type 0
FitsBelow n (row.Pair a b) = Below n a × Below n b
FitsBelow n (row.List a) = Below n a
FitsBelow n (row.Opt a) = Below n a

-- the test that two rows are the same
abbrev pub same_row : Row → Row → Bool
same_row = (row_eq.ghosts).eq

-- each row's parts are before it
abbrev pub AllFit : List Row → Type 0
AllFit rows = (k : ℕ) (r : Row) → slice_get rows k ≡ Some r → FitsBelow k r

-- each row's parts are before it, and the places have each row at its place and no other
pub record IsTable (rows : List Row) (places : List (Row × ℕ)) : Type 0 where
  pub fits : AllFit rows
  pub here : (k : ℕ) (r : Row) → slice_get rows k ≡ Some r → lookup (same_row r) places ≡ Some k
  pub there : (k : ℕ) (r : Row) → lookup (same_row r) places ≡ Some k → slice_get rows k ≡ Some r

-- the second table goes on from the first: the earlier types are as they were
abbrev pub Extends : List ValueType → List ValueType → Type 0
Extends ts us = (more : List ValueType) × (us ≡ ts ++ more)

-- the type of the members of a list
abbrev pub list_part : ValueType → Option ValueType
list_part (list A) = Some A
list_part A = None

-- the type of what an option may hold
abbrev pub option_part : ValueType → Option ValueType
option_part (option A) = Some A
option_part A = None

-- the types of the parts of a pair
abbrev pub pair_parts : ValueType → Option (ValueType × ValueType)
pair_parts (pair A B) = Some (A, B)
pair_parts A = None
