-- Whether each entry of a list of numbers is a thesis, one by one.
use Rattle.std.proofs.Common.{◌≡◌, ℕ, ◌+◌, ◌<◌, ◌≤◌, Bool, true, false, ◌&&◌, Option, Some, None, List, ◌∷◌, refl, sym, ap, ◌∙◌, length, drop, get_or}
use Rattle.std.specs.Prelude.{option_map, option_and_then}
use Rattle.std.proofs.lemmas.List.{drop_more}
use Rattle.std.proofs.Math.ListN.{drop_of_length-le}
use Rattle.ft_items.specs.Store.{Assertion, Store, each, entry_named}
use Rattle.ft_check.specs.Kinds.{thesis_named, theses_named, both}

-- a test so far, with that of the rest
abbrev pub so_far : Bool → Option Bool → Option Bool
so_far b o = option_map (λ c. b && c) o

theses_first : (W : Store) (p : ℕ) (ps : List ℕ) → theses_named W (p ∷ ps) ≡ both (thesis_named W p) (theses_named W ps)
theses_first W p ps = go (entry_named W p) (each (entry_named W) ps)
  where
    go : (o : Option Assertion) (os : Option (List Assertion))
        → option_map Rattle.ft_items.specs.Good.all_theses (option_and_then (λ b. option_map (λ bs. b ∷ bs) os) o)
        ≡ both (option_map (λ (a : Assertion). Rattle.ft_items.specs.Equal.is_thesis a.statement) o) (option_map Rattle.ft_items.specs.Good.all_theses os)
    go None os = refl
    go (Some a) None = refl
    go (Some a) (Some as') = refl

theses_at : (W : Store) (ps : List ℕ) (k p : ℕ) → k < length ps → p ≡ get_or ps k 0 → theses_named W (drop k ps) ≡ both (thesis_named W p) (theses_named W (drop (k + 1) ps))
theses_at W ps k p lt e =
    ap (theses_named W) (drop_more ps k 0 lt) ∙ theses_first W (get_or ps k 0) (drop (k + 1) ps)
    ∙ ap (λ q. both (thesis_named W q) (theses_named W (drop (k + 1) ps))) (sym e)

first_none : (x y z : Option Bool) → x ≡ both y z → None ≡ y → None ≡ x
first_none x y z e h = ap (λ y. both y z) h ∙ sym e

pub theses_none : (W : Store) (ps : List ℕ) (k p : ℕ) (b : Bool) → theses_named W ps ≡ so_far b (theses_named W (drop k ps)) → k < length ps → p ≡ get_or ps k 0 → None ≡ thesis_named W p → None ≡ theses_named W ps
theses_none W ps k p b h lt e n =
    ap (so_far b) (first_none (theses_named W (drop k ps)) (thesis_named W p) (theses_named W (drop (k + 1) ps)) (theses_at W ps k p lt e) n) ∙ sym h

one_more : (b t : Bool) (o : Option Bool) → so_far b (both (Some t) o) ≡ so_far (b && t) o
one_more b t None = refl
one_more true t (Some c) = refl
one_more false t (Some c) = refl

pub theses_next : (W : Store) (ps : List ℕ) (k p : ℕ) (b t : Bool) → theses_named W ps ≡ so_far b (theses_named W (drop k ps)) → k < length ps → p ≡ get_or ps k 0 → Some t ≡ thesis_named W p
    → theses_named W ps ≡ so_far (b && t) (theses_named W (drop (k + 1) ps))
theses_next W ps k p b t h lt e n =
    h ∙ ap (so_far b) (theses_at W ps k p lt e ∙ ap (λ y. both y (theses_named W (drop (k + 1) ps))) (sym n)) ∙ one_more b t (theses_named W (drop (k + 1) ps))

pub theses_start : (W : Store) (ps : List ℕ) → theses_named W ps ≡ so_far true (theses_named W ps)
theses_start W ps = go (theses_named W ps)
  where
    go : (o : Option Bool) → o ≡ so_far true o
    go None = refl
    go (Some c) = refl

pub theses_end : (W : Store) (ps : List ℕ) (k : ℕ) (b : Bool) → theses_named W ps ≡ so_far b (theses_named W (drop k ps)) → length ps ≤ k → Some b ≡ theses_named W ps
theses_end W ps k b h le = sym (h ∙ ap (λ xs. so_far b (theses_named W xs)) (drop_of_length-le ps le) ∙ go b)
  where
    go : (b : Bool) → Some (b && true) ≡ Some b
    go true = refl
    go false = refl
