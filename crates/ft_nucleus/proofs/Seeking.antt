-- The first atom of a set for which something is found, looked for from the front.
use Rattle.std.proofs.Common.{◌≡◌, ◌∙◌, ℕ, suc, ◌<◌, ◌≤◌, nat_eq, Bool, true, false, cond, not, ◌&&◌, Option, Some, None, List, [], ◌∷◌, length, map, drop, get_or, refl, sym, ap, drop-cons, drop_of_length-le}
use Rattle.ft_theory.specs.Rules.{look_up}
use Rattle.ft_items.specs.Sets.{Atom, met, var}
use Rattle.ft_items.specs.Store.{Annotation}
use Rattle.ft_items.specs.Rows.{when, rests_on}
use Rattle.ft_reference.specs.Declare.{first_variable}
use Rattle.ft_reference.specs.Checks.{first_dependent}
use Rattle.ft_assume.specs.Atoms.{atom_of, atoms_of}
use Rattle.ft_assume.specs.declared.atom.Atom.{Atom as AtomValue}
use Rattle.ft_nucleus.specs.Named.{variable_of_atom, dependent_atom}

-- F gives what g gives for the first atom for which g gives something
pub record IsFirstBy (F : List Atom → Option ℕ) (g : Atom → Option ℕ) : Type 0 where
  pub none : F [] ≡ None
  pub skips : (a : Atom) (S : List Atom) → g a ≡ None → F (a ∷ S) ≡ F S
  pub takes : (a : Atom) (S : List Atom) (v : ℕ) → g a ≡ Some v → F (a ∷ S) ≡ Some v

-- nothing was found before the place i
abbrev pub IsBehind : (List Atom → Option ℕ) → List AtomValue → ℕ → Type 0
IsBehind F xs i = F (atoms_of (drop i xs)) ≡ F (atoms_of xs)

at_place : (xs : List AtomValue) (i : ℕ) (x : AtomValue) → i < length xs → x ≡ get_or xs i x → atoms_of (drop i xs) ≡ atom_of x ∷ atoms_of (drop (suc i) xs)
at_place xs i x l h = ap atoms_of (drop-cons xs i x l) ∙ ap (λ y. atom_of y ∷ atoms_of (drop (suc i) xs)) (sym h)

pub seeking_more : {F : List Atom → Option ℕ} {g : Atom → Option ℕ} → IsFirstBy F g → (xs : List AtomValue) (i : ℕ) (x : AtomValue) → IsBehind F xs i → i < length xs → x ≡ get_or xs i x → g (atom_of x) ≡ None → IsBehind F xs (suc i)
seeking_more {F} {g} B xs i x h l e k = sym (B.skips (atom_of x) (atoms_of (drop (suc i) xs)) k) ∙ ap F (sym (at_place xs i x l e)) ∙ h

pub seeking_found : {F : List Atom → Option ℕ} {g : Atom → Option ℕ} → IsFirstBy F g → (xs : List AtomValue) (i : ℕ) (x : AtomValue) (v : ℕ) → IsBehind F xs i → i < length xs → x ≡ get_or xs i x → g (atom_of x) ≡ Some v → Some v ≡ F (atoms_of xs)
seeking_found {F} {g} B xs i x v h l e k = sym (B.takes (atom_of x) (atoms_of (drop (suc i) xs)) v k) ∙ ap F (sym (at_place xs i x l e)) ∙ h

pub seeking_end : {F : List Atom → Option ℕ} {g : Atom → Option ℕ} → IsFirstBy F g → (xs : List AtomValue) (i : ℕ) → IsBehind F xs i → length xs ≤ i → None ≡ F (atoms_of xs)
seeking_end {F} {g} B xs i h l = sym B.none ∙ ap (λ ys. F (atoms_of ys)) (sym (drop_of_length-le xs l)) ∙ h

-- the first variable
pub first_by_number : IsFirstBy first_variable variable_of_atom
first_by_number = record { none = refl; skips = skips; takes = takes }
  where
    skips : (a : Atom) (S : List Atom) → variable_of_atom a ≡ None → first_variable (a ∷ S) ≡ first_variable S
    skips (met m) S h = refl
    skips (var v) S h = let clash : Some v ≡ None = h in cc

    takes : (a : Atom) (S : List Atom) (v : ℕ) → variable_of_atom a ≡ Some v → first_variable (a ∷ S) ≡ Some v
    takes (met m) S v h = let clash : None ≡ Some v = h in cc
    takes (var w) S v h = h

-- the first other variable whose annotation rests on v
pub first_by_dependence : (G : List (ℕ × Annotation)) (v : ℕ) → IsFirstBy (first_dependent G v) (dependent_atom G v)
first_by_dependence G v = record { none = refl; skips = skips; takes = takes }
  where
    skips : (a : Atom) (S : List Atom) → dependent_atom G v a ≡ None → first_dependent G v (a ∷ S) ≡ first_dependent G v S
    skips (met m) S h = refl
    skips (var w) S h = go (not (nat_eq w v) && rests_on v (look_up G w)) h
      where
        go : (b : Bool) → when b w ≡ None → cond b (Some w) (first_dependent G v S) ≡ first_dependent G v S
        go true h = let clash : Some w ≡ None = h in cc
        go false h = refl

    takes : (a : Atom) (S : List Atom) (u : ℕ) → dependent_atom G v a ≡ Some u → first_dependent G v (a ∷ S) ≡ Some u
    takes (met m) S u h = let clash : None ≡ Some u = h in cc
    takes (var w) S u h = go (not (nat_eq w v) && rests_on v (look_up G w)) h
      where
        go : (b : Bool) → when b w ≡ Some u → cond b (Some w) (first_dependent G v S) ≡ Some u
        go true h = h
        go false h = let clash : None ≡ Some u = h in cc
