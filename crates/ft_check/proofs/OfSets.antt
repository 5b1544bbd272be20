-- Tests of sets and of lists, item by item.
use Rattle.std.proofs.Common.{◌≡◌, ℕ, ◌+◌, ◌<◌, ◌≤◌, nat_eq, Bool, true, false, cond, ◌&&◌, ◌||◌, not, List, [], ◌∷◌, refl, sym, ap, ap₂, ◌∙◌, length, get_or, drop, map}
use Rattle.std.specs.List.{list_all, list_any}
use Rattle.std.proofs.lemmas.List.{drop_all, drop_more}
use Rattle.ft_items.specs.Sets.{Atom, met, var, same_atom, has, is_within, metavariables_only}
use Rattle.ft_items.specs.Rows.{differ}
use Rattle.ft_assume.specs.declared.atom.Atom.{Atom as AtomValue}
use Rattle.ft_assume.specs.declared.atom.Atom.TheVariants.{Met, Var}
use Rattle.ft_assume.specs.Atoms.{atom_of, atoms_of}

variable_not : (v : ℕ) (ms : List ℕ) → false ≡ list_any (λ n. same_atom (var v) (met n)) ms
variable_not v [] = refl
variable_not v (m ∷ ms) = variable_not v ms

pub no_variable : (a : AtomValue) (v : ℕ) (ms : List ℕ) → a ≡ Var v → false ≡ list_any (λ n. same_atom (atom_of a) (met n)) ms
no_variable a v ms e = variable_not v ms ∙ ap (λ a. list_any (λ n. same_atom (atom_of a) (met n)) ms) (sym e)

has_any : (a : Atom) (ms : List ℕ) → list_any (λ n. same_atom a (met n)) ms ≡ has a (map met ms)
has_any a [] = refl
has_any a (m ∷ ms) = go (same_atom a (met m)) (has_any a ms)
  where
    go : (b : Bool) → list_any (λ n. same_atom a (met n)) ms ≡ has a (map met ms) → (b || list_any (λ n. same_atom a (met n)) ms) ≡ cond b true (has a (map met ms))
    go true h = refl
    go false h = h

within_each : (S : List AtomValue) (ms : List ℕ) → list_all (λ a. list_any (λ n. same_atom (atom_of a) (met n)) ms) S ≡ is_within (atoms_of S) (map met ms)
within_each [] ms = refl
within_each (a ∷ S) ms = ap₂ ◌&&◌ (has_any (atom_of a) ms) (within_each S ms)

pub within_all : (S : List AtomValue) (A : List Atom) (ms : List ℕ) → atoms_of S ≡ A → list_all (λ a. list_any (λ n. same_atom (atom_of a) (met n)) ms) S ≡ is_within A (map met ms)
within_all S A ms e = within_each S ms ∙ ap (λ X. is_within X (map met ms)) e

metavariables_each : (S : List AtomValue) → list_all (λ a. metavariables_only (atom_of a ∷ [])) S ≡ metavariables_only (atoms_of S)
metavariables_each [] = refl
metavariables_each (Met m ∷ S) = metavariables_each S
metavariables_each (Var v ∷ S) = refl

pub metavariables_all : (S : List AtomValue) (A : List Atom) → atoms_of S ≡ A → list_all (λ a. metavariables_only (atom_of a ∷ [])) S ≡ metavariables_only A
metavariables_all S A e = metavariables_each S ∙ ap metavariables_only e

-- metavariables that differ, from a place on
differ_split : (ms : List ℕ) (k m : ℕ) → k < length ms → m ≡ get_or ms k 0 → differ (map met (drop k ms)) ≡ (not (list_any (λ n. nat_eq m n) (drop (k + 1) ms)) && differ (map met (drop (k + 1) ms)))
differ_split ms k m lt e =
    ap (λ X. differ (map met X)) (drop_more ms k 0 lt ∙ ap (λ n. n ∷ drop (k + 1) ms) (sym e))
    ∙ ap (λ b. not b && differ (map met (drop (k + 1) ms))) (sym (has_any (met m) (drop (k + 1) ms)))

pub differ_next : (ms : List ℕ) (k m : ℕ) (b : Bool) → differ (map met ms) ≡ differ (map met (drop k ms)) → k < length ms → m ≡ get_or ms k 0 → b ≡ list_any (λ n. nat_eq m n) (drop (k + 1) ms) → b ≡ false → differ (map met ms) ≡ differ (map met (drop (k + 1) ms))
differ_next ms k m b h lt e t f = h ∙ differ_split ms k m lt e ∙ ap (λ c. not c && differ (map met (drop (k + 1) ms))) (sym t ∙ f)

pub differ_not : (ms : List ℕ) (k m : ℕ) (b : Bool) → differ (map met ms) ≡ differ (map met (drop k ms)) → k < length ms → m ≡ get_or ms k 0 → b ≡ list_any (λ n. nat_eq m n) (drop (k + 1) ms) → b ≡ true → false ≡ differ (map met ms)
differ_not ms k m b h lt e t f = sym (h ∙ differ_split ms k m lt e ∙ ap (λ c. not c && differ (map met (drop (k + 1) ms))) (sym t ∙ f))

pub differ_end : (ms : List ℕ) (k : ℕ) → differ (map met ms) ≡ differ (map met (drop k ms)) → length ms ≤ k → true ≡ differ (map met ms)
differ_end ms k h le = sym (h ∙ ap (λ X. differ (map met X)) (drop_all k ms le))
