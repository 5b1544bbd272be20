-- Texts that are joined, one after the other.
use Rattle.std.proofs.Common.{◌≡◌, ◌≢◌, ◌∙◌, sym, ap, refl, ℕ, zero, suc, ◌<◌, get_or, List, [], ◌∷◌, ◌++◌, length, map, take, slice_get, Some, append_assoc, append-nil, arith, flat_map, Result, Ok, Err, OnOk, OnErr}
use Rattle.std.proofs.lemmas.Option.{slice_get_read}
use Rattle.ft_items.specs.Texts.{joined}

-- the texts, each after the separator
abbrev pub further : List ℕ → List (List ℕ) → List ℕ
further s xs = flat_map (λ y. s ++ y) xs

pub glue : (a r s x : List ℕ) → a ++ (r ++ s ++ x) ≡ a ++ r ++ s ++ x
glue a r s x = sym (ap (λ z. z ++ x) (append_assoc a r s) ∙ append_assoc a (r ++ s) x)

pub further_next : {A : Type 0} (f : A → List ℕ) (s : List ℕ) (xs : List A) (i : ℕ) (x : A) → slice_get xs i ≡ Some x → further s (map f (take (suc i) xs)) ≡ further s (map f (take i xs)) ++ s ++ f x
further_next f s [] i x g = cc
further_next f s (y ∷ ys) zero x g = let same : y ≡ x = cc in append-nil (s ++ f y) ∙ ap (λ y. s ++ f y) same
further_next f s (y ∷ ys) (suc i) x g =
    ap (λ z. (s ++ f y) ++ z) (further_next f s ys i x g) ∙ glue (s ++ f y) (further s (map f (take i ys))) s (f x)

pub joined_next : {A : Type 0} (f : A → List ℕ) (s : List ℕ) (xs : List A) (i : ℕ) (x : A) (b : List ℕ) → slice_get xs i ≡ Some x → (i ≡ 0 → b ≡ []) → (i ≢ 0 → b ≡ s)
    → joined s (map f (take (suc i) xs)) ≡ joined s (map f (take i xs)) ++ b ++ f x
joined_next f s [] i x b g first next = cc
joined_next f s (y ∷ ys) zero x b g first next = let same : y ≡ x = cc in append-nil (f y) ∙ ap f same ∙ ap (λ b. b ++ f x) (sym (first refl))
joined_next f s (y ∷ ys) (suc i) x b g first next =
    let r = further s (map f (take i ys)) in
    let later : b ≡ s = next (λ z. absurd (omega (arith, z))) in
    ap (λ z. f y ++ z) (further_next f s ys i x g) ∙ glue (f y) r s (f x) ∙ ap (λ b. (f y ++ r) ++ b ++ f x) (sym later)

-- the next of the joined texts, after what was written before it
pub written_next : {A : Type 0} (f : A → List ℕ) (s : List ℕ) (xs : List A) (i : ℕ) (x : A) (b start out mid new : List ℕ) → slice_get xs i ≡ Some x → (i ≡ 0 → b ≡ []) → (i ≢ 0 → b ≡ s)
    → out ≡ start ++ joined s (map f (take i xs)) → mid ≡ out ++ b → new ≡ mid ++ f x → new ≡ start ++ joined s (map f (take (suc i) xs))
written_next f s xs i x b start out mid new g first next o m n =
    n ∙ ap (λ z. z ++ f x) m ∙ ap (λ z. z ++ b ++ f x) o ∙ sym (glue start (joined s (map f (take i xs))) b (f x)) ∙ ap (λ z. start ++ z) (sym (joined_next f s xs i x b g first next))

pub flat_next : {A : Type 0} (f : A → List ℕ) (xs : List A) (i : ℕ) (x : A) → slice_get xs i ≡ Some x → flat_map f (take (suc i) xs) ≡ flat_map f (take i xs) ++ f x
flat_next f [] i x g = cc
flat_next f (y ∷ ys) zero x g = let same : y ≡ x = cc in append-nil (f y) ∙ ap f same
flat_next f (y ∷ ys) (suc i) x g = ap (λ z. f y ++ z) (flat_next f ys i x g) ∙ sym (append_assoc (f y) (flat_map f (take i ys)) (f x))

-- an element that was read
pub read_at : {A : Type 0} (xs : List A) (i : ℕ) (x : A) → i < length xs → x ≡ get_or xs i x → slice_get xs i ≡ Some x
read_at xs i x l e = slice_get_read xs (length xs) i x refl l e

pub on_both : {A E P Q R S T : Type 0} (x : Result A E) → (P → Q → R → S → T) → OnOk x P → OnOk x Q → OnOk x R → OnOk x S → OnOk x T
on_both (Ok a) f p q r s = f p q r s
on_both (Err e) f p q r s = tt

pub on_error : {A E P : Type 0} (x : Result A E) → P → OnErr x P
on_error (Ok a) h = tt
on_error (Err e) h = h
