-- Choices by tests.
use Rattle.std.proofs.Common.{◌≡◌, ◌≢◌, ◌∙◌, sym, refl, ℕ, nat_eq, Bool, true, false, cond, if◌then◌else◌}
use Rattle.std.proofs.lemmas.Bool.{cond-true, cond-false, eq-eqb, ne_eqb}

-- what holds at both answers of a test holds at its answer
pub if_both : {X : Type 0} (P : X → Type 0) (b : Bool) (x y : X) → (b ≡ true → P x) → (b ≡ false → P y) → P (if b then x else y)
if_both P true x y first second = first refl
if_both P false x y first second = second refl

pub if_true : {X : Type 0} (x y : X) (b : Bool) → b ≡ true → (if b then x else y) ≡ x
if_true x y b e = cond-true b x y e

pub if_false : {X : Type 0} (x y : X) (b : Bool) → b ≡ false → (if b then x else y) ≡ y
if_false x y b e = cond-false b x y e

pub by_test : {P : Type 0} (b : Bool) → (b ≡ true → P) → (b ≡ false → P) → P
by_test true f g = f refl
by_test false f g = g refl

-- what was chosen
pub taken : {A : Type 0} {r : A} (x y : A) (b : Bool) → b ≡ true → (if b then x else y) ≡ r → x ≡ r
taken x y b e h = sym (if_true x y b e) ∙ h

pub not_taken : {A : Type 0} {r : A} (x y : A) (b : Bool) → b ≡ false → (if b then x else y) ≡ r → y ≡ r
not_taken x y b e h = sym (if_false x y b e) ∙ h

-- the choice by whether two numbers are one
pub if_same : {A : Type 0} (i j : ℕ) (x y : A) → i ≡ j → cond (nat_eq i j) x y ≡ x
if_same i j x y e = cond-true (nat_eq i j) x y (eq-eqb i j e)

pub if_other : {A : Type 0} (i j : ℕ) (x y : A) → i ≢ j → cond (nat_eq i j) x y ≡ y
if_other i j x y n = cond-false (nat_eq i j) x y (ne_eqb i j n)
