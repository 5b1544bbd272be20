-- What is kept of a list of items, as it grows.
use Rattle.std.proofs.Common.{◌≡◌, ℕ, ◌+◌, ◌<◌, ◌≤◌, nat_eq, List, [], ◌∷◌, ◌++◌, sym, ap, ap₂, ◌∙◌, subst, length, get_or, take}
use Rattle.std.specs.Str.{bytes_eq}
use Rattle.std.specs.Map.{lookup}
use Rattle.ft_theory.specs.Expressions.{Expression}
use Rattle.ft_items.specs.Item.{Name, Item}
use Rattle.ft_stated.specs.Lines.{item_in, items_in}
use Rattle.ft_stated.specs.First.{greatest_up_to, is_variable_of, is_rule_of, number_after_all, or_place, AreFirsts}
use Rattle.ft_stated.specs.declared.firsts.Greatest.{Greatest}
use Rattle.ft_stated.specs.declared.stated.Stated.{Stated}
use Rattle.ft_stated.proofs.FirstPlaces.{first_more}
use Rattle.ft_stated.proofs.GreatestNumbers.{greatest_more}
use Rattle.ft_stated.proofs.Indexes.{taken_next, taken_many, taken_all}

-- one more item
firsts_more : (items : List Item) (i : Item) (k : ℕ) (vs vs' : List (ℕ × ℕ)) (rs rs' : List (Name × ℕ)) (gs gs' : List Greatest) → AreFirsts items vs rs gs → k ≡ length items
    → ((w : ℕ) → lookup (nat_eq w) vs' ≡ or_place (lookup (nat_eq w) vs) (is_variable_of w i) k)
    → ((n : Name) → lookup (bytes_eq n) rs' ≡ or_place (lookup (bytes_eq n) rs) (is_rule_of n i) k)
    → gs' ≡ gs ++ greatest_up_to k (number_after_all gs) (i ∷ [])
    → AreFirsts (items ++ i ∷ []) vs' rs' gs'
firsts_more items i k vs vs' rs rs' gs gs' h at v r g = record {
  variables_are = λ w. v w ∙ ap₂ (λ o k. or_place o (is_variable_of w i) k) (h.variables_are w) at ∙ sym (first_more (is_variable_of w) items i);
  rules_are = λ n. r n ∙ ap₂ (λ o k. or_place o (is_rule_of n i) k) (h.rules_are n) at ∙ sym (first_more (is_rule_of n) items i);
  greatest_are = g ∙ ap (λ k. gs ++ greatest_up_to k (number_after_all gs) (i ∷ [])) at ∙ greatest_more items i gs h.greatest_are;
}

pub firsts_next : (ts : List Expression) (xs : List Stated) (k place : ℕ) (x : Stated) (vs vs' : List (ℕ × ℕ)) (rs rs' : List (Name × ℕ)) (gs gs' : List Greatest)
    → AreFirsts (items_in ts (take k xs)) vs rs gs → k < length xs → x ≡ get_or xs k x → place ≡ k
    → ((w : ℕ) → lookup (nat_eq w) vs' ≡ or_place (lookup (nat_eq w) vs) (is_variable_of w (item_in ts x)) place)
    → ((n : Name) → lookup (bytes_eq n) rs' ≡ or_place (lookup (bytes_eq n) rs) (is_rule_of n (item_in ts x)) place)
    → gs' ≡ gs ++ greatest_up_to place (number_after_all gs) (item_in ts x ∷ [])
    → AreFirsts (items_in ts (take (k + 1) xs)) vs' rs' gs'
firsts_next ts xs k place x vs vs' rs rs' gs gs' h lt at is v r g =
    subst (λ X. AreFirsts X vs' rs' gs') (sym (taken_next ts xs k x lt at))
    (firsts_more (items_in ts (take k xs)) (item_in ts x) place vs vs' rs rs' gs gs' h (is ∙ sym (taken_many ts xs k lt)) v r g)

pub firsts_end : (ts : List Expression) (xs : List Stated) (k : ℕ) (vs : List (ℕ × ℕ)) (rs : List (Name × ℕ)) (gs : List Greatest) → AreFirsts (items_in ts (take k xs)) vs rs gs → length xs ≤ k → AreFirsts (items_in ts xs) vs rs gs
firsts_end ts xs k vs rs gs h le = subst (λ X. AreFirsts X vs rs gs) (taken_all ts xs k le) h
