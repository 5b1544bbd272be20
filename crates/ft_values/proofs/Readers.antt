-- What the value of a row is not.
use Rattle.std.proofs.Common.{◌≡◌, ◌∙◌, ap, refl, List, false, None}
use Rattle.ft_values.specs.Kept.{Kept, truth_of, is_unit, is_nil, is_none_value}
use Rattle.ft_values.specs.Rows.{kept_at}
use Rattle.ft_values.specs.declared.values.Row.{Row}
use Rattle.ft_values.specs.declared.values.Row.TheVariants as row

row_is_no_truth : (ks : List Kept) (r : Row) → None ≡ truth_of (kept_at ks r)
row_is_no_truth ks (row.Judgement j) = refl
row_is_no_truth ks (row.Boundary b) = refl
row_is_no_truth ks (row.Pair a b) = refl
row_is_no_truth ks (row.Cons a b) = refl
row_is_no_truth ks (row.SomeValue a) = refl

pub row_no_truth : (ks : List Kept) (r : Row) (k : Kept) → kept_at ks r ≡ k → None ≡ truth_of k
row_no_truth ks r k h = row_is_no_truth ks r ∙ ap truth_of h

row_is_no_unit : (ks : List Kept) (r : Row) → false ≡ is_unit (kept_at ks r)
row_is_no_unit ks (row.Judgement j) = refl
row_is_no_unit ks (row.Boundary b) = refl
row_is_no_unit ks (row.Pair a b) = refl
row_is_no_unit ks (row.Cons a b) = refl
row_is_no_unit ks (row.SomeValue a) = refl

pub row_no_unit : (ks : List Kept) (r : Row) (k : Kept) → kept_at ks r ≡ k → false ≡ is_unit k
row_no_unit ks r k h = row_is_no_unit ks r ∙ ap is_unit h

row_is_no_nil : (ks : List Kept) (r : Row) → false ≡ is_nil (kept_at ks r)
row_is_no_nil ks (row.Judgement j) = refl
row_is_no_nil ks (row.Boundary b) = refl
row_is_no_nil ks (row.Pair a b) = refl
row_is_no_nil ks (row.Cons a b) = refl
row_is_no_nil ks (row.SomeValue a) = refl

pub row_no_nil : (ks : List Kept) (r : Row) (k : Kept) → kept_at ks r ≡ k → false ≡ is_nil k
row_no_nil ks r k h = row_is_no_nil ks r ∙ ap is_nil h

row_is_no_none : (ks : List Kept) (r : Row) → false ≡ is_none_value (kept_at ks r)
row_is_no_none ks (row.Judgement j) = refl
row_is_no_none ks (row.Boundary b) = refl
row_is_no_none ks (row.Pair a b) = refl
row_is_no_none ks (row.Cons a b) = refl
row_is_no_none ks (row.SomeValue a) = refl

pub row_no_none : (ks : List Kept) (r : Row) (k : Kept) → kept_at ks r ≡ k → false ≡ is_none_value k
row_no_none ks r k h = row_is_no_none ks r ∙ ap is_none_value h
