-- Each tree of a table is small.
use Rattle.std.proofs.Common.{ℕ, zero, suc, ◌<◌, List, [], ◌∷◌, ◌++◌, length, arith}
use Rattle.ft_theory.specs.Expressions.{Expression}
use Rattle.ft_theory.specs.Small.{IsSmall}
use Rattle.ft_syntax.specs.Table.{tree}
use Rattle.ft_syntax.specs.Invariant.{row_tree, trees_after, AreGoodRows}
use Rattle.ft_syntax.specs.declared.syntax.Arg.{Arg}
use Rattle.ft_syntax.specs.declared.table.Row.{Row}

abbrev AreSmall : List Expression → Type 0
AreSmall ts = (e : ℕ) → e < length ts → IsSmall (tree ts e)

one_more : (ts : List Expression) (t : Expression) → AreSmall ts → IsSmall t → AreSmall (ts ++ t ∷ [])
one_more [] t h k zero l = k
one_more [] t h k (suc e) l = absurd (omega (arith, l))
one_more (u ∷ ts) t h k zero l = h zero (omega arith)
one_more (u ∷ ts) t h k (suc e) l = one_more ts t (λ i m. h (suc i) (omega (arith, m))) k e (omega (arith, l))

all_small : (parts : List Arg) (ts : List Expression) (rs : List Row) → AreSmall ts → AreGoodRows parts ts rs → AreSmall (trees_after parts ts rs)
all_small parts ts [] h g = h
all_small parts ts (r ∷ rs) h g = all_small parts (ts ++ row_tree parts ts r ∷ []) rs (one_more ts (row_tree parts ts r) h g.0.small) g.1

pub trees_small : (parts : List Arg) (rs : List Row) → AreGoodRows parts [] rs → AreSmall (trees_after parts [] rs)
trees_small parts rs g = all_small parts [] rs (λ e l. absurd (omega (arith, l))) g
