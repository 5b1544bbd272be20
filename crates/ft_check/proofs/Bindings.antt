-- Whether a set has a variable whose type rests on another one, atom by atom.
use Rattle.std.proofs.Common.{◌≡◌, ℕ, ◌+◌, ◌<◌, ◌≤◌, Bool, true, false, cond, not, ◌&&◌, nat_eq, Option, Some, None, List, [], ◌∷◌, refl, sym, ap, ◌∙◌, subst, length, drop, get_or, ◌≢◌}
use Rattle.std.specs.Prelude.{IsSomeAnd}
use Rattle.std.proofs.lemmas.Bool.{eq-eqb, ne_eqb}
use Rattle.std.proofs.lemmas.List.{drop_more}
use Rattle.std.proofs.Math.ListN.{drop_of_length-le}
use Rattle.ft_theory.specs.Rules.{look_up}
use Rattle.ft_assume.specs.Atoms.{atom_of, atoms_of}
use Rattle.ft_assume.specs.declared.atom.Atom.{Atom as AtomValue}
use Rattle.ft_assume.specs.declared.atom.Atom.TheVariants.{Met, Var}
use Rattle.ft_items.specs.Sets.{Atom, met, var, has}
use Rattle.ft_items.specs.Rows.{depends, rests_on}
use Rattle.ft_items.specs.Store.{Annotation}

depends_first : (G : List (ℕ × Annotation)) (v : ℕ) (a : Atom) (S : List Atom) → depends G v (a ∷ S) ≡ cond (depends G v (a ∷ [])) true (depends G v S)
depends_first G v (met m) S = refl
depends_first G v (var w) S = go (not (nat_eq w v) && rests_on v (look_up G w))
  where
    go : (b : Bool) → cond b true (depends G v S) ≡ cond (cond b true false) true (depends G v S)
    go true = refl
    go false = refl

depends_at : (G : List (ℕ × Annotation)) (v : ℕ) (xs : List AtomValue) (k : ℕ) (d a : AtomValue) (b : Bool) → k < length xs → a ≡ get_or xs k d → b ≡ depends G v (atom_of a ∷ []) → depends G v (atoms_of (drop k xs)) ≡ cond b true (depends G v (atoms_of (drop (k + 1) xs)))
depends_at G v xs k d a b l e f =
    ap (λ ys. depends G v (atoms_of ys)) (drop_more xs k d l) ∙ ap (λ x. depends G v (atom_of x ∷ atoms_of (drop (k + 1) xs))) (sym e)
    ∙ depends_first G v (atom_of a) (atoms_of (drop (k + 1) xs)) ∙ ap (λ b. cond b true (depends G v (atoms_of (drop (k + 1) xs)))) (sym f)

pub depends_next : (G : List (ℕ × Annotation)) (v : ℕ) (xs : List AtomValue) (k : ℕ) (d a : AtomValue) (b c : Bool) → c ≡ depends G v (atoms_of (drop k xs)) → k < length xs → a ≡ get_or xs k d → b ≡ depends G v (atom_of a ∷ []) → b ≡ false → c ≡ depends G v (atoms_of (drop (k + 1) xs))
depends_next G v xs k d a b c h l e f g = h ∙ depends_at G v xs k d a b l e f ∙ ap (λ b. cond b true (depends G v (atoms_of (drop (k + 1) xs)))) g

pub depends_found : (G : List (ℕ × Annotation)) (v : ℕ) (xs : List AtomValue) (k : ℕ) (d a : AtomValue) (b c : Bool) → c ≡ depends G v (atoms_of (drop k xs)) → k < length xs → a ≡ get_or xs k d → b ≡ depends G v (atom_of a ∷ []) → b ≡ true → true ≡ c
depends_found G v xs k d a b c h l e f g = sym (h ∙ depends_at G v xs k d a b l e f ∙ ap (λ b. cond b true (depends G v (atoms_of (drop (k + 1) xs)))) g)

pub depends_end : (G : List (ℕ × Annotation)) (v : ℕ) (xs : List AtomValue) (k : ℕ) (c : Bool) → c ≡ depends G v (atoms_of (drop k xs)) → length xs ≤ k → false ≡ c
depends_end G v xs k c h l = sym (h ∙ ap (λ ys. depends G v (atoms_of ys)) (drop_of_length-le xs l))

-- one atom
pub same_variable : (G : List (ℕ × Annotation)) (v : ℕ) (a : AtomValue) (w : ℕ) → a ≡ Var w → w ≡ v → false ≡ depends G v (atom_of a ∷ [])
same_variable G v a w e h = sym (ap (λ a. depends G v (atom_of a ∷ [])) e ∙ ap (λ b. cond (not b && rests_on v (look_up G w)) true false) (eq-eqb w v h))

pub other_variable : (G : List (ℕ × Annotation)) (v : ℕ) (a : AtomValue) (w : ℕ) (b : Bool) → a ≡ Var w → w ≢ v → b ≡ rests_on v (look_up G w) → b ≡ depends G v (atom_of a ∷ [])
other_variable G v a w b e n h = sym (ap (λ a. depends G v (atom_of a ∷ [])) e ∙ ap (λ b. cond (not b && rests_on v (look_up G w)) true false) (ne_eqb w v n) ∙ go (rests_on v (look_up G w)) ∙ sym h)
  where
    go : (b : Bool) → cond b true false ≡ b
    go true = refl
    go false = refl

pub no_variable : (G : List (ℕ × Annotation)) (v : ℕ) (a : AtomValue) (m : ℕ) → a ≡ Met m → false ≡ depends G v (atom_of a ∷ [])
no_variable G v a m e = sym (ap (λ a. depends G v (atom_of a ∷ [])) e)

-- the type of a variable that is there, or of none
pub rests_none : (v : ℕ) (o : Option Annotation) → ((d : Annotation) → o ≡ Some d → ⊥) → false ≡ rests_on v o
rests_none v None n = refl
rests_none v (Some d) n = absurd (n d refl)

pub rests_some : (v : ℕ) (o : Option Annotation) (b : Bool) (S : List Atom) → b ≡ has (var v) S → (o ≡ None → ⊥) → ((d : Annotation) → o ≡ Some d → S ≡ d.set) → b ≡ rests_on v o
rests_some v None b S h n s = absurd (n refl)
rests_some v (Some d) b S h n s = h ∙ ap (has (var v)) (s d refl)

pub not_some : {A : Type 0} {P : Type 0} (Q : A → Type 0) (o : Option A) → IsSomeAnd o Q → o ≡ None → P
not_some Q o h e = absurd (subst (λ o. IsSomeAnd o Q) e h)

pub as_some : {A : Type 0} (Q : A → Type 0) (o : Option A) (x : A) → IsSomeAnd o Q → o ≡ Some x → Q x
as_some Q o x h e = subst (λ o. IsSomeAnd o Q) e h
