-- Lists.
use Rattle.std.proofs.Common.{◌≡◌, ◌∙◌, sym, ap, refl, subst, ℕ, ◌-◌, Bool, true, false, if◌then◌else◌, List, [], ◌∷◌, length, take, drop, find, Some}
use Rattle.std.proofs.Math.Seq.{take-length}
use Rattle.std.proofs.lemmas.List.{length-drop}

-- all that is left from a place on
pub range_from : {A : Type 0} (xs : List A) (at : ℕ) → take (length xs - at) (drop at xs) ≡ drop at xs
range_from xs at = ap (λ n. take n (drop at xs)) (sym (length-drop at xs)) ∙ take-length (drop at xs)

-- what is found passes
pub find_passes : {A : Type 0} (passes : A → Bool) (xs : List A) (x : A) → find passes xs ≡ Some x → passes x ≡ true
find_passes passes [] x e = cc
find_passes passes (y ∷ xs) x e = elim (passes y) as (λ b. passes y ≡ b → (if b then Some y else find passes xs) ≡ Some x → passes x ≡ true)
    [ true ↦ (λ is found. subst (λ z. passes z ≡ true) (cc) is) | false ↦ (λ is found. find_passes passes xs x found) ] refl e
