-- Expressions of another table, copied one by one.
use Rattle.std.proofs.Common.{◌≡◌, ℕ, ◌+◌, ◌<◌, ◌≤◌, List, [], ◌∷◌, ◌++◌, refl, sym, ap, ap₂, ◌∙◌, subst, length, drop, get_or, map}
use Rattle.std.proofs.lemmas.List.{append_assoc, append-nil, drop_more, get_or_default, map-append}
use Rattle.std.proofs.Math.ListN.{drop_of_length-le}
use Rattle.ft_theory.specs.Expressions.{Expression}
use Rattle.ft_syntax.specs.Laws.{all_below_extends, all_push, trees_extend}
use Rattle.ft_syntax.specs.Table.{tree, Extends, AllBelow}

-- The first k expressions are copied, and the others are to come.
pub record CopiedSoFar (ts : List Expression) (list : List ℕ) (k : ℕ) (us : List Expression) (xs : List ℕ) : Type 0 where
  pub below : AllBelow (length us) xs
  pub same : map (tree us) xs ++ map (tree ts) (drop k list) ≡ map (tree ts) list

pub copied_start : (ts : List Expression) (list : List ℕ) (us : List Expression) → CopiedSoFar ts list 0 us []
copied_start ts list us = record { below = tt; same = refl }

pub copied_more : (ts : List Expression) (list : List ℕ) (k e r : ℕ) (us vs : List Expression) (xs ys : List ℕ) → CopiedSoFar ts list k us xs → k < length list → e ≡ get_or list k e → Extends us vs → r < length vs → tree vs r ≡ tree ts e
    → ys ≡ xs ++ r ∷ [] → CopiedSoFar ts list (k + 1) vs ys
copied_more ts list k e r us vs xs ys m l f x b t g = record {
  below = longer (all_push (length vs) xs r (all_below_extends us vs xs x m.below) b);
  same = ap (λ zs. map (tree vs) zs ++ map (tree ts) (drop (k + 1) list)) g
      ∙ ap (λ z. z ++ map (tree ts) (drop (k + 1) list)) (map-append (tree vs) xs (r ∷ []))
      ∙ append_assoc (map (tree vs) xs) (tree vs r ∷ []) (map (tree ts) (drop (k + 1) list))
      ∙ ap₂ (λ z y. z ++ y ∷ map (tree ts) (drop (k + 1) list)) (trees_extend us vs xs x m.below) (t ∙ ap (tree ts) (f ∙ sym (get_or_default list k 0 e l)))
      ∙ ap (λ z. map (tree us) xs ++ map (tree ts) z) (sym (drop_more list k 0 l))
      ∙ m.same;
}
  where
    longer : AllBelow (length vs) (xs ++ r ∷ []) → AllBelow (length vs) ys
    longer h = subst (AllBelow (length vs)) (sym g) h

pub copied_end : (ts : List Expression) (list : List ℕ) (k : ℕ) (us : List Expression) (xs : List ℕ) → CopiedSoFar ts list k us xs → length list ≤ k → map (tree us) xs ≡ map (tree ts) list
copied_end ts list k us xs m l =
    sym (append-nil (map (tree us) xs)) ∙ ap (λ z. map (tree us) xs ++ map (tree ts) z) (sym (drop_of_length-le list l)) ∙ m.same
