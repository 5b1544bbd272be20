-- Whether atoms are a draft's own metavariables.
use Rattle.std.proofs.Common.{◌≡◌, ◌≢◌, ◌⊎◌, inl, inr, ◌∙◌, ℕ, zero, suc, ◌<◌, ◌≤◌, Bool, true, false, cond, nat_eq, Some, None, List, [], ◌∷◌, length, drop, get_or, map, refl, sym, ap, arith, drop-cons, drop_of_length-le}
use Rattle.std.specs.Prelude.{Result, Ok, Err, is_ok, MatchResult}
use Rattle.std.specs.Ordering.{nat_cmp}
use Rattle.std.specs.List.Sorted.{IsBinarySearchResult}
use Rattle.std.proofs.lemmas.List.Sorted.{searched}
use Rattle.ft_rules.specs.Drafts.{InOrder}
use Rattle.std.proofs.lemmas.Bool.{eq-eqb, cases_lt}
use Rattle.std.proofs.lemmas.Bool.Decides.{eqb_tells}
use Rattle.ft_common.proofs.Options.{some_none}
use Rattle.ft_items.specs.Sets.{Atom, met, var, has, metavariables_only}
use Rattle.ft_reference.specs.Declare.{first_outside}
use Rattle.ft_assume.specs.Atoms.{atom_of, atoms_of}
use Rattle.ft_assume.specs.declared.atom.Atom.{Atom as AtomValue}

pub own_found : (ns : List ℕ) (i m : ℕ) → i < length ns → get_or ns i 0 ≡ m → true ≡ has (met m) (map met ns)
own_found [] i m l e = absurd (omega (arith, l))
own_found (n ∷ ns) zero m l e = sym (ap (λ b. cond b true (has (met m) (map met ns))) (eq-eqb m n (sym e)))
own_found (n ∷ ns) (suc i) m l e = own_found ns i m (omega (arith, l)) e ∙ go (nat_eq m n) (sym (own_found ns i m (omega (arith, l)) e))
  where
    go : (b : Bool) → has (met m) (map met ns) ≡ true → has (met m) (map met ns) ≡ cond b true (has (met m) (map met ns))
    go true h = h
    go false h = refl

own_none : (ns : List ℕ) (m : ℕ) → ((k : ℕ) → k < length ns → get_or ns k 0 ≢ m) → false ≡ has (met m) (map met ns)
own_none [] m h = refl
own_none (n ∷ ns) m h = go (eqb_tells m n) (own_none ns m (λ k l. h (suc k) (omega (arith, l))))
  where
    go : ((nat_eq m n ≡ true) × (m ≡ n)) ⊎ ((nat_eq m n ≡ false) × (m ≢ n)) → false ≡ has (met m) (map met ns) → false ≡ has (met m) (map met (n ∷ ns))
    go (inl e) ih = absurd (h zero (omega arith) (sym e.1))
    go (inr n) ih = ih ∙ sym (ap (λ b. cond b true (has (met m) (map met ns))) n.0)

pub own_missing : (ns : List ℕ) (i m : ℕ) → ((k : ℕ) → k < i → get_or ns k 0 < m) → ((k : ℕ) → i ≤ k → k < length ns → m < get_or ns k 0) → false ≡ has (met m) (map met ns)
own_missing ns i m below above = own_none ns m (λ k l e. go k l e (cases_lt k i))
  where
    go : (k : ℕ) → k < length ns → get_or ns k 0 ≡ m → (k < i) ⊎ (i ≤ k) → ⊥
    go k l e (inl h) = omega (arith, below k h, e)
    go k l e (inr h) = omega (arith, above k h l, e)

pub no_variable : (ns : List ℕ) (v : ℕ) → false ≡ has (var v) (map met ns)
no_variable [] v = refl
no_variable (n ∷ ns) v = no_variable ns v

-- the loop over the atoms
pub record Looking (ns : List ℕ) (as' : List AtomValue) (i : ℕ) : Type 0 where
  pub rest : first_outside (map met ns) (atoms_of as') ≡ first_outside (map met ns) (atoms_of (drop i as'))

pub looking_start : (ns : List ℕ) (as' : List AtomValue) → Looking ns as' 0
looking_start ns as' = record { rest = refl }

at_place : (ns : List ℕ) (as' : List AtomValue) (i : ℕ) (a : AtomValue) → i < length as' → a ≡ get_or as' i a
    → first_outside (map met ns) (atoms_of (drop i as')) ≡ cond (has (atom_of a) (map met ns)) (first_outside (map met ns) (atoms_of (drop (suc i) as'))) (Some (atom_of a))
at_place ns as' i a l e = ap (λ bs. first_outside (map met ns) (atoms_of bs)) (drop-cons as' i a l ∙ ap (λ b. b ∷ drop (suc i) as') (sym e))

pub looking_more : (ns : List ℕ) (as' : List AtomValue) (i : ℕ) (a : AtomValue) → Looking ns as' i → i < length as' → a ≡ get_or as' i a → has (atom_of a) (map met ns) ≡ true → Looking ns as' (suc i)
looking_more ns as' i a h l e o = record { rest = h.rest ∙ at_place ns as' i a l e ∙ ap (λ b. cond b (first_outside (map met ns) (atoms_of (drop (suc i) as'))) (Some (atom_of a))) o }

pub looking_found : (ns : List ℕ) (as' : List AtomValue) (i : ℕ) (a : AtomValue) → Looking ns as' i → i < length as' → a ≡ get_or as' i a → has (atom_of a) (map met ns) ≡ false → Some (atom_of a) ≡ first_outside (map met ns) (atoms_of as')
looking_found ns as' i a h l e o = sym (h.rest ∙ at_place ns as' i a l e ∙ ap (λ b. cond b (first_outside (map met ns) (atoms_of (drop (suc i) as'))) (Some (atom_of a))) o)

pub looking_end : (ns : List ℕ) (as' : List AtomValue) (i : ℕ) → Looking ns as' i → length as' ≤ i → None ≡ first_outside (map met ns) (atoms_of as')
looking_end ns as' i h l = sym (h.rest ∙ ap (λ bs. first_outside (map met ns) (atoms_of bs)) (drop_of_length-le as' l))

-- what is within the own metavariables has no variable
pub only_own : (ns : List ℕ) (S : List Atom) → first_outside (map met ns) S ≡ None → metavariables_only S ≡ true
only_own ns [] h = refl
only_own ns (met m ∷ S) h = go (has (met m) (map met ns)) h (only_own ns S)
  where
    go : (b : Bool) → cond b (first_outside (map met ns) S) (Some (met m)) ≡ None → (first_outside (map met ns) S ≡ None → metavariables_only S ≡ true) → metavariables_only S ≡ true
    go true h ih = ih h
    go false h ih = some_none h
only_own ns (var v ∷ S) h = some_none (ap (λ b. cond b (first_outside (map met ns) S) (Some (var v))) (no_variable ns v) ∙ h)

-- what binary search finds among numbers in order
pub own_by : (ns : List ℕ) (m : ℕ) (r : Result ℕ ℕ) → InOrder ns → IsBinarySearchResult (λ y. nat_cmp y m) ns r → is_ok r ≡ has (met m) (map met ns)
own_by ns m r o h = go r (searched ns m r h o)
  where
    go : (r : Result ℕ ℕ) → MatchResult r (λ i. (i < length ns) × (get_or ns i 0 ≡ m)) (λ i. (i ≤ length ns) × ((k : ℕ) → k < i → get_or ns k 0 < m) × ((k : ℕ) → i ≤ k → k < length ns → m < get_or ns k 0)) → is_ok r ≡ has (met m) (map met ns)
    go (Ok i) p = own_found ns i m p.0 p.1
    go (Err i) p = own_missing ns i m p.1 p.2
