-- Texts that are joined, one after the other.
use Rattle.std.proofs.Common.{◌≡◌, ◌≢◌, ◌∙◌, sym, ap, refl, ℕ, zero, suc, List, [], ◌∷◌, ◌++◌, map, take, slice_get, Some, codes, append_assoc, Result, Ok, Err, OnOk, arith}
use Rattle.std.proofs.lemmas.List.{map-append}
use Rattle.ft_common.proofs.Options.{none_some}
use Rattle.ft_meaning.specs.Texts.{Text, joined}

pub glue : (a r s x : Text) → a ++ (r ++ s ++ x) ≡ a ++ r ++ s ++ x
glue a r s x = sym (ap (λ z. z ++ x) (append_assoc a r s) ∙ append_assoc a (r ++ s) x)

-- the list up to a place and the element there
pub take_next : {A : Type 0} (xs : List A) (i : ℕ) (x : A) → slice_get xs i ≡ Some x → take (suc i) xs ≡ take i xs ++ x ∷ []
take_next [] i x g = none_some g
take_next (y ∷ ys) zero x g = let same : y ≡ x = cc in ap (λ y. y ∷ []) same
take_next (y ∷ ys) (suc i) x g = ap (λ z. y ∷ z) (take_next ys i x g)

joined_last : (t : Text) (ts : List Text) (x : Text) → joined ((t ∷ ts) ++ x ∷ []) ≡ joined (t ∷ ts) ++ codes ", " ++ x
joined_last t [] x = refl
joined_last t (u ∷ us) x = ap (λ z. (t ++ codes ", ") ++ z) (joined_last u us x) ∙ glue (t ++ codes ", ") (joined (u ∷ us)) (codes ", ") x

mapped_next : {A : Type 0} (f : A → Text) (ys : List A) (i : ℕ) (x : A) → slice_get ys i ≡ Some x → map f (take (suc i) ys) ≡ map f (take i ys) ++ f x ∷ []
mapped_next f ys i x g = ap (map f) (take_next ys i x g) ∙ map-append f (take i ys) (x ∷ [])

pub joined_next : {A : Type 0} (f : A → Text) (xs : List A) (i : ℕ) (x : A) (b : Text) → slice_get xs i ≡ Some x → (i ≡ 0 → b ≡ []) → (i ≢ 0 → b ≡ codes ", ")
    → joined (map f (take (suc i) xs)) ≡ joined (map f (take i xs)) ++ b ++ f x
joined_next f [] i x b g first next = none_some g
joined_next f (y ∷ ys) zero x b g first next = let same : y ≡ x = cc in ap f same ∙ ap (λ b. b ++ f x) (sym (first refl))
joined_next f (y ∷ ys) (suc i) x b g first next =
    let later : b ≡ codes ", " = next (λ z. absurd (omega (arith, z))) in
    ap (λ z. joined (f y ∷ z)) (mapped_next f ys i x g) ∙ joined_last (f y) (map f (take i ys)) (f x) ∙ ap (λ b. joined (f y ∷ map f (take i ys)) ++ b ++ f x) (sym later)

-- texts after an opening parenthesis, where there are any
abbrev pub opened : List Text → Text
opened [] = []
opened (t ∷ ts) = codes "(" ++ joined (t ∷ ts)

pub opened_next : {A : Type 0} (f : A → Text) (xs : List A) (i : ℕ) (x : A) (b : Text) → slice_get xs i ≡ Some x → (i ≡ 0 → b ≡ codes "(") → (i ≢ 0 → b ≡ codes ", ")
    → opened (map f (take (suc i) xs)) ≡ opened (map f (take i xs)) ++ b ++ f x
opened_next f [] i x b g first next = none_some g
opened_next f (y ∷ ys) zero x b g first next = let same : y ≡ x = cc in ap (λ y. codes "(" ++ f y) same ∙ ap (λ b. b ++ f x) (sym (first refl))
opened_next f (y ∷ ys) (suc i) x b g first next =
    let later : b ≡ codes ", " = next (λ z. absurd (omega (arith, z))) in
    ap (λ z. codes "(" ++ joined (f y ∷ z)) (mapped_next f ys i x g) ∙ ap (λ z. codes "(" ++ z) (joined_last (f y) (map f (take i ys)) (f x))
    ∙ glue (codes "(") (joined (f y ∷ map f (take i ys))) (codes ", ") (f x) ∙ ap (λ b. (codes "(" ++ joined (f y ∷ map f (take i ys))) ++ b ++ f x) (sym later)

-- what was written so far, and one more part
pub written_more : (old done b x out mid new more : Text) → more ≡ done ++ b ++ x → out ≡ old ++ done → mid ≡ out ++ b → new ≡ mid ++ x → new ≡ old ++ more
written_more old done b x out mid new more e o m n = n ∙ ap (λ z. z ++ x) m ∙ ap (λ z. z ++ b ++ x) o ∙ sym (glue old done b x) ∙ ap (λ z. old ++ z) (sym e)

-- the same without anything before the part
pub written_next : (old done x out new more : Text) → more ≡ done ++ x → out ≡ old ++ done → new ≡ out ++ x → new ≡ old ++ more
written_next old done x out new more e o n = n ∙ ap (λ z. z ++ x) o ∙ append_assoc old done x ∙ ap (λ z. old ++ z) (sym e)

-- two parts of a text
pub two_parts : {A E : Type 0} (x : Result A E) (old a b mid new text : Text) → text ≡ a ++ b → mid ≡ old ++ a → OnOk x (new ≡ mid ++ b) → OnOk x (new ≡ old ++ text)
two_parts (Ok r) old a b mid new text t m e = written_next old a b mid new text t m e
two_parts (Err r) old a b mid new text t m e = tt
