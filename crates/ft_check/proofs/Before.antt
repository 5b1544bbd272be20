-- What the first place of an item says of the items before a place.
use Rattle.std.proofs.Common.{◌≡◌, ℕ, zero, suc, nat_eq, Bool, true, false, ◌&&◌, not, leb, cond, Option, Some, None, List, [], ◌∷◌, refl, sym, ◌∙◌, take, ◌<◌, ◌≤◌, ◌≢◌, ◌⊎◌, inl, inr, arith}
use Rattle.std.specs.Prelude.{option_map}
use Rattle.std.specs.List.{list_all}
use Rattle.std.proofs.lemmas.Bool.{le-leb, lt-leb}
use Rattle.std.proofs.lemmas.Bool.Decides.{eqb_tells, leb_tells}
use Rattle.ft_items.specs.Item.{Item}
use Rattle.ft_stated.specs.First.{first_place}

-- the test that a place, where there is one, is not before i
abbrev pub is_not_before : ℕ → Option ℕ → Bool
is_not_before i None = true
is_not_before i (Some k) = leb i k

later : (i : ℕ) (o : Option ℕ) → is_not_before (suc i) (option_map suc o) ≡ is_not_before i o
later i None = refl
later i (Some k) = go (leb_tells (suc i) (suc k)) (leb_tells i k)
  where
    go : ((leb (suc i) (suc k) ≡ true) × (suc i ≤ suc k)) ⊎ ((leb (suc i) (suc k) ≡ false) × (suc k < suc i)) → ((leb i k ≡ true) × (i ≤ k)) ⊎ ((leb i k ≡ false) × (k < i)) → leb (suc i) (suc k) ≡ leb i k
    go (inl t) (inl u) = t.0 ∙ sym u.0
    go (inl t) (inr f) = absurd (omega (arith, t.1, f.1))
    go (inr f) (inl t) = absurd (omega (arith, t.1, f.1))
    go (inr f) (inr g) = f.0 ∙ sym g.0

at_start : (o : Option ℕ) → is_not_before 0 o ≡ true
at_start None = refl
at_start (Some k) = le-leb 0 k (omega arith)

-- no item before i passes the test where the first that does is not before i
pub none_before : (p : Item → Bool) (items : List Item) (i : ℕ) → list_all (λ x. not (p x)) (take i items) ≡ is_not_before i (first_place p items)
none_before p [] zero = refl
none_before p [] (suc i) = refl
none_before p (x ∷ items) zero = sym (at_start (first_place p (x ∷ items)))
none_before p (x ∷ items) (suc i) = go (p x) (none_before p items i)
  where
    go : (b : Bool) → list_all (λ x. not (p x)) (take i items) ≡ is_not_before i (first_place p items)
        → (not b && list_all (λ x. not (p x)) (take i items)) ≡ is_not_before (suc i) (cond b (Some 0) (option_map suc (first_place p items)))
    go true h = sym (lt-leb (suc i) 0 (omega arith))
    go false h = h ∙ sym (later i (first_place p items))

pub equal_swapped : (v w : ℕ) → nat_eq v w ≡ nat_eq w v
equal_swapped v w = go (eqb_tells v w) (eqb_tells w v)
  where
    go : ((nat_eq v w ≡ true) × (v ≡ w)) ⊎ ((nat_eq v w ≡ false) × (v ≢ w)) → ((nat_eq w v ≡ true) × (w ≡ v)) ⊎ ((nat_eq w v ≡ false) × (w ≢ v)) → nat_eq v w ≡ nat_eq w v
    go (inl t) (inl u) = t.0 ∙ sym u.0
    go (inl t) (inr f) = absurd (f.1 (sym t.1))
    go (inr f) (inl t) = absurd (f.1 (sym t.1))
    go (inr f) (inr g) = f.0 ∙ sym g.0
