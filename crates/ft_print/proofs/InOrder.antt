-- The variables of a set, and the place of a variable among them.
use Rattle.std.proofs.Common.{◌≡◌, ◌∙◌, sym, ap, refl, subst, ℕ, zero, suc, ◌<◌, ◌≤◌, nat_lt, true, false, cond, List, [], ◌∷◌, ◌++◌, length, take, slice_get, Some, slice_index_or, filter, arith, append-nil}
use Rattle.std.specs.Prelude.{All}
use Rattle.std.specs.List.Sorted.{IsNonDecreasing, IsPartitionPoint, IsPartitionedBy}
use Rattle.std.proofs.lemmas.Bool.{ltb-true, lt-ltb}
use Rattle.ft_items.specs.Sets.{Atom, met, var, PrecedesAll, Ascending}
use Rattle.std.proofs.lemmas.List.{map-append, take_all}
use Rattle.ft_assume.specs.declared.atom.Atom.TheVariants.{Met, Var}
use Rattle.ft_print.proofs.Joining.{take_next}
use Rattle.ft_assume.specs.Atoms.{atom_of, atoms_of}
use Rattle.ft_assume.specs.declared.atom.Atom.{Atom as AtomValue}
use Rattle.ft_meaning.specs.Texts.{variables}

-- the variables of a set and one more atom
pub variables_append : (S R : List Atom) → variables (S ++ R) ≡ variables S ++ variables R
variables_append [] R = refl
variables_append (met m ∷ S) R = variables_append S R
variables_append (var v ∷ S) R = ap (λ z. v ∷ z) (variables_append S R)

above_all : (v : ℕ) (S : List Atom) → PrecedesAll (var v) S → All (λ w. v ≤ w) (variables S)
above_all v [] h k d l = absurd (omega arith)
above_all v (met m ∷ S) h k d l = above_all v S h.1 k d l
above_all v (var w ∷ S) h zero d l = let less : v < w = ltb-true v w h.0 in omega (arith, less)
above_all v (var w ∷ S) h (suc k) d l = above_all v S h.1 k d (omega arith)

increasing_cons : (x : ℕ) (xs : List ℕ) → All (λ y. x ≤ y) xs → IsNonDecreasing xs → IsNonDecreasing (x ∷ xs)
increasing_cons x xs a h zero zero d l k = omega arith
increasing_cons x xs a h zero (suc j) d l k = a j d (omega arith)
increasing_cons x xs a h (suc i) zero d l k = absurd (omega arith)
increasing_cons x xs a h (suc i) (suc j) d l k = h i j d (omega arith) (omega arith)

none_decreases : IsNonDecreasing []
none_decreases i j d l k = absurd (omega arith)

-- the variables of an ascending list ascend
pub variables_ascend : (S : List Atom) → Ascending S → IsNonDecreasing (variables S)
variables_ascend [] h = none_decreases
variables_ascend (met m ∷ S) h = variables_ascend S h.1
variables_ascend (var v ∷ S) h = increasing_cons v (variables S) (above_all v S h.0) (variables_ascend S h.1)

pub alone_ascends : (v : ℕ) → IsNonDecreasing (v ∷ [])
alone_ascends v = increasing_cons v [] (λ k d l. absurd (omega arith)) none_decreases

-- the variables below one stand in front
pub parted : (vs : List ℕ) (v : ℕ) → IsNonDecreasing vs → IsPartitionedBy (λ w. nat_lt w v) vs
parted vs v h i j d l k e =
    let below : slice_index_or vs j d < v = ltb-true (slice_index_or vs j d) v e in
    let order : slice_index_or vs i d ≤ slice_index_or vs j d = h i j d l k in
    lt-ltb (slice_index_or vs i d) v (omega (arith, below, order))

-- so the place at which they end is how many they are
pub counted : (vs : List ℕ) (v i : ℕ) → i ≤ length vs → IsPartitionPoint (λ y. nat_lt y v ≡ true) (λ y. nat_lt y v ≡ false) vs i → i ≡ length (filter (λ w. nat_lt w v) vs)
counted [] v zero l h = refl
counted [] v (suc i) l h = absurd (omega arith)
counted (w ∷ ws) v zero l h =
    let rest : List ℕ = filter (λ w. nat_lt w v) ws in
    let past : nat_lt w v ≡ false = h.1 zero 0 (omega arith) (omega arith) in
    counted ws v zero (omega arith) (λ k d m n. absurd (omega arith), λ k d m n. h.1 (suc k) d (omega arith) (omega arith))
    ∙ sym (ap (λ b. length (cond b (w ∷ rest) rest)) past)
counted (w ∷ ws) v (suc i) l h =
    let rest : List ℕ = filter (λ w. nat_lt w v) ws in
    let before : nat_lt w v ≡ true = h.0 zero 0 (omega arith) (omega arith) in
    ap suc (counted ws v i (omega arith) (λ k d m n. h.0 (suc k) d (omega arith) (omega arith), λ k d m n. h.1 (suc k) d (omega arith) (omega arith)))
    ∙ sym (ap (λ b. length (cond b (w ∷ rest) rest)) before)

-- one more atom of a list
pub variables_next : (atoms : List AtomValue) (i : ℕ) (a : AtomValue) → slice_get atoms i ≡ Some a → variables (atoms_of (take (suc i) atoms)) ≡ variables (atoms_of (take i atoms)) ++ variables (atom_of a ∷ [])
variables_next atoms i a g =
    ap (λ xs. variables (atoms_of xs)) (take_next atoms i a g) ∙ ap variables (map-append atom_of (take i atoms) (a ∷ [])) ∙ variables_append (atoms_of (take i atoms)) (atom_of a ∷ [])

-- which is a variable, or is none
pub variable_next : (atoms : List AtomValue) (i v : ℕ) (a : AtomValue) (found : List ℕ) → slice_get atoms i ≡ Some a → a ≡ Var v → found ≡ variables (atoms_of (take i atoms)) → found ++ v ∷ [] ≡ variables (atoms_of (take (suc i) atoms))
variable_next atoms i v a found g e f = ap (λ z. z ++ v ∷ []) f ∙ sym (variables_next atoms i a g ∙ ap (λ a. variables (atoms_of (take i atoms)) ++ variables (atom_of a ∷ [])) e)

pub other_next : (atoms : List AtomValue) (i m : ℕ) (a : AtomValue) (found : List ℕ) → slice_get atoms i ≡ Some a → a ≡ Met m → found ≡ variables (atoms_of (take i atoms)) → found ≡ variables (atoms_of (take (suc i) atoms))
other_next atoms i m a found g e f =
    f ∙ sym (append-nil (variables (atoms_of (take i atoms)))) ∙ sym (variables_next atoms i a g ∙ ap (λ a. variables (atoms_of (take i atoms)) ++ variables (atom_of a ∷ [])) e)

-- all atoms of a set
pub variables_end : (atoms : List AtomValue) (S : List Atom) (i : ℕ) (vs : List ℕ) → length atoms ≤ i → atoms_of atoms ≡ S → Ascending S → vs ≡ variables (atoms_of (take i atoms)) → IsNonDecreasing vs
variables_end atoms S i vs l same o e =
    subst IsNonDecreasing (sym (e ∙ ap (λ xs. variables (atoms_of xs)) (take_all i atoms l) ∙ ap variables same)) (variables_ascend S o)
