-- Small lemmas that several proofs cite: on the members of lists, and on what a number names.
use Rattle.std.proofs.Common.{◌≡◌, ℕ, zero, suc, Option, Some, None, List, [], ◌∷◌, refl, sym, ap, ◌∙◌, map}
use Rattle.std.specs.Prelude.{option_map, option_and_then}
use Rattle.std.proofs.lemmas.Option.{same_Some}
use Rattle.ft_common.proofs.Options.{none_some}
use Rattle.ft_items.specs.Store.{Declared, each, metavariable_named, nth, Declarations}

pub nth_map : {A B : Type 0} (f : A → B) (xs : List A) (n : ℕ) → nth (map f xs) n ≡ option_map f (nth xs n)
nth_map f [] n = refl
nth_map f (x ∷ xs) zero = refl
nth_map f (x ∷ xs) (suc n) = nth_map f xs n

-- what the first member and the rest give
pub each_first : {A B : Type 0} (f : A → Option B) (x : A) (xs : List A) (ys : List B) → each f (x ∷ xs) ≡ Some ys → (y : B) × (zs : List B) × (f x ≡ Some y) × (each f xs ≡ Some zs) × (ys ≡ y ∷ zs)
each_first {A} {B} f x xs ys h = go (f x) refl (each f xs) refl h
  where
    go : (o : Option B) → f x ≡ o → (os : Option (List B)) → each f xs ≡ os → option_and_then (λ b. option_map (λ bs. b ∷ bs) os) o ≡ Some ys → (y : B) × (zs : List B) × (f x ≡ Some y) × (each f xs ≡ Some zs) × (ys ≡ y ∷ zs)
    go None e os d h = none_some h
    go (Some y) e None d h = none_some h
    go (Some y) e (Some zs) d h = (y, zs, e, d, sym (same_Some (y ∷ zs) ys h))

-- a metavariable that is named has its number, and is declared
pub named : (W : Declarations) (m : ℕ) (d : ℕ × Declared) → metavariable_named W m ≡ Some d → (d.0 ≡ m) × (nth W.metavariables m ≡ Some d.1)
named W m d h = go (nth W.metavariables m) refl h
  where
    go : (o : Option Declared) → nth W.metavariables m ≡ o → option_map (λ c. (m, c)) o ≡ Some d → (d.0 ≡ m) × (nth W.metavariables m ≡ Some d.1)
    go None e h = none_some h
    go (Some c) e h =
        let same : (m, c) ≡ d = same_Some (m, c) d h in
        (sym (ap (λ (x : ℕ × Declared). x.0) same), e ∙ ap (λ (x : ℕ × Declared). Some x.1) same)
