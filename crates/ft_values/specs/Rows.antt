-- The values that rows stand for.
use Rattle.std.specs.Prelude.{ℕ, suc, ◌≡◌, ◌<◌, List, [], ◌∷◌, ◌++◌}
use Rattle.std.specs.Prelude.{slice_index_or, slice_get, Some}
use Rattle.ft_values.specs.Kept.{Kept, judgement, boundary, unit, truth}
use Rattle.ft_values.specs.Kept.{pair, nil, cons, none, some}
use Rattle.ft_values.specs.declared.values.Value.{Value}
use Rattle.ft_values.specs.declared.values.Value.TheVariants as value
use Rattle.ft_values.specs.declared.values.Row.{Row}
use Rattle.ft_values.specs.declared.values.Row.TheVariants as row

-- the value of a known one, over the values of the rows
abbrev pub kept_in : List Kept → Value → Kept
kept_in ks value.Unit = unit
kept_in ks (value.Truth b) = truth b
kept_in ks value.Nil = nil
kept_in ks value.NoneValue = none
kept_in ks (value.At n) = slice_index_or ks n unit

-- it names one of the first n rows, or none
abbrev pub Below : ℕ → Value → Type 0
Below n value.Unit = Unit {0}
Below n (value.Truth b) = Unit {0}
Below n value.Nil = Unit {0}
Below n value.NoneValue = Unit {0}
Below n (value.At k) = k < n

-- the value of a row, over the values of the rows before it
abbrev pub kept_at : List Kept → Row → Kept
kept_at ks (row.Judgement j) = judgement j
kept_at ks (row.Boundary b) = boundary b
kept_at ks (row.Pair a b) = pair (kept_in ks a) (kept_in ks b)
kept_at ks (row.Cons a b) = cons (kept_in ks a) (kept_in ks b)
kept_at ks (row.SomeValue a) = some (kept_in ks a)

-- the values after some, of rows that follow
abbrev pub kept_after : List Kept → List Row → List Kept
kept_after ks [] = ks
kept_after ks (r ∷ rs) = kept_after (ks ++ kept_at ks r ∷ []) rs

abbrev pub kept_of : List Row → List Kept
kept_of rows = kept_after [] rows

-- a row's parts are among the first n rows
abbrev pub FitsBelow : ℕ → Row → Type 0
FitsBelow n (row.Judgement j) = Unit {0}
FitsBelow n (row.Boundary b) = Unit {0}
FitsBelow n (row.Pair a b) = Below n a × Below n b
FitsBelow n (row.Cons a b) = Below n a × Below n b
FitsBelow n (row.SomeValue a) = Below n a

-- each row's parts are before it
abbrev pub AllFit : List Row → Type 0
AllFit rows = (k : ℕ) (r : Row) → slice_get rows k ≡ Some r → FitsBelow k r

-- the second table goes on from the first: the earlier values are as they were
abbrev pub Extends : List Kept → List Kept → Type 0
Extends ks ls = (more : List Kept) × (ls ≡ ks ++ more)

-- one more than the row of a value in the table, and 0 of another
abbrev pub rank : Value → ℕ
rank value.Unit = 0
rank (value.Truth b) = 0
rank value.Nil = 0
rank value.NoneValue = 0
rank (value.At k) = suc k
