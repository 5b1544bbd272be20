-- The rows of a table, where it is seen as its trees.
use Rattle.std.proofs.Common.{◌≡◌, ◌∙◌, ◌<◌, ℕ, List, [], ap, subst, length, get_or, arith}
use Rattle.ft_theory.specs.Expressions.{Expression}
use Rattle.ft_syntax.specs.Invariant.{own, trees_after, AreGoodRows, HasArguments}
use Rattle.ft_syntax.specs.declared.syntax.Arg.{Arg}
use Rattle.ft_syntax.specs.declared.table.Row.{Row}
use Rattle.ft_syntax.proofs.Tables.{IsRow, row_of, row_arguments, length_trees}

module _ (ts : List Expression) (parts : List Arg) (rs : List Row) (e p : ℕ) (r : Row) (s : trees_after parts [] rs ≡ ts) (g : AreGoodRows parts [] rs) (l : e < length ts) (q : p ≡ e) (h : r ≡ get_or rs p r) where
  low : e < length rs
  low = omega (arith, l, ap length s, length_trees parts [] rs)

  read : r ≡ get_or rs e r
  read = h ∙ ap (λ k. get_or rs k r) q

  pub row_seen : IsRow ts e r
  row_seen = subst (λ us. IsRow us e r) s (row_of parts rs e r g low read)

  pub arguments_seen : (now : List Arg) → now ≡ parts → HasArguments ts e (own now r)
  arguments_seen now n = subst (λ us. HasArguments us e (own now r)) s (row_arguments parts now rs e r g low read n)
