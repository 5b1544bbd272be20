-- What numbers of a list name, and the sets of theses.
use Rattle.std.proofs.Common.{◌≡◌, ◌∙◌, ℕ, zero, suc, ◌-◌, ◌<◌, ◌≤◌, true, ◌&&◌, Option, Some, None, List, [], ◌∷◌, length, drop, get_or, refl, sym, ap, ap₂, subst, arith, drop_of_length-le}
use Rattle.std.specs.Prelude.{option_map, option_and_then}
use Rattle.ft_common.proofs.Options.{none_some}
use Rattle.ft_theory.specs.Statements.{Statement}
use Rattle.ft_items.specs.Sets.{Atom, unions, union}
use Rattle.ft_items.specs.Item.{Item}
use Rattle.ft_items.specs.Equal.{is_thesis}
use Rattle.ft_items.specs.Store.{Assertion, nth, each, entry_named, entries_in}
use Rattle.ft_items.specs.Rows.{sets}
use Rattle.ft_items.specs.Good.{all_theses}
use Rattle.ft_kernel.specs.State.{State, entry_at, statement_at, set_at, IsThesisOf}
use Rattle.ft_calls.proofs.Answering.{store, entry_in}
use Rattle.ft_metas.specs.Named.{entry_or, entry_of, entries_of, statements_of, AreThesesOf}
use Rattle.ft_metas.proofs.Places.{drop_one}

-- one of several theses
pub thesis_named : (s : State) (js : List ℕ) (i j : ℕ) → AreThesesOf s js → i < length js → j ≡ get_or js i j → IsThesisOf s j
thesis_named s [] i j h l e = absurd (omega arith)
thesis_named s (k ∷ js) zero j h l e = subst (IsThesisOf s) (sym e) h.0
thesis_named s (k ∷ js) (suc i) j h l e = let m : i < length js = omega arith in thesis_named s js i j h.1 m e

-- theses stay theses
pub thesis_stays : (s t : State) (j : ℕ) → t.items ≡ s.items → IsThesisOf s j → IsThesisOf t j
thesis_stays s t j e h = subst (λ items. (a : Assertion) × (nth (entries_in items) j ≡ Some a) × (is_thesis a.statement ≡ true)) (sym e) h

pub theses_stay : (s t : State) (js : List ℕ) → t.items ≡ s.items → AreThesesOf s js → AreThesesOf t js
theses_stay s t [] e h = tt
theses_stay s t (j ∷ js) e h = (thesis_stays s t j e h.0, theses_stay s t js e h.1)

-- what an entry has
pub entry_found : (s : State) (j : ℕ) (a : Assertion) → entry_at s j ≡ Some a → entry_of s.items j ≡ a
entry_found s j a h = ap entry_or h

pub statement_found : (s : State) (j : ℕ) (x : Statement) → statement_at s j ≡ Some x → (entry_of s.items j).statement ≡ x
statement_found s j x h = go (entry_at s j) h
  where
    go : (o : Option Assertion) → option_map (λ (a : Assertion). a.statement) o ≡ Some x → (entry_or o).statement ≡ x
    go None e = none_some e
    go (Some a) e = cc

pub set_found : (s : State) (j : ℕ) (S : List Atom) → set_at s j ≡ Some S → (entry_of s.items j).set ≡ S
set_found s j S h = go (entry_at s j) h
  where
    go : (o : Option Assertion) → option_map (λ (a : Assertion). a.set) o ≡ Some S → (entry_or o).set ≡ S
    go None e = none_some e
    go (Some a) e = cc

-- several
pub each_named : (s : State) (js : List ℕ) → AreThesesOf s js → each (entry_named (store s)) js ≡ Some (entries_of s.items js)
each_named s [] h = refl
each_named s (j ∷ js) h =
    ap₂ (λ o os. option_and_then (λ b. option_map (λ bs. b ∷ bs) os) o) (entry_in s j h.0.0 h.0.1) (each_named s js h.1)
    ∙ ap (λ a. Some (a ∷ entries_of s.items js)) (sym (entry_found s j h.0.0 h.0.1))

pub theses_of : (s : State) (js : List ℕ) → AreThesesOf s js → all_theses (entries_of s.items js) ≡ true
theses_of s [] h = refl
theses_of s (j ∷ js) h = ap₂ (λ b c. b && c) (ap (λ (a : Assertion). is_thesis a.statement) (entry_found s j h.0.0 h.0.1) ∙ h.0.2) (theses_of s js h.1)

pub as_many : (items : List Item) (js : List ℕ) → length (statements_of items js) ≡ length js
as_many items [] = refl
as_many items (j ∷ js) = ap suc (as_many items js)

-- The loop over the sets, from the last: the set is that of the theses from a place on.
pub record Joining (items : List Item) (js : List ℕ) (i : ℕ) (set : List Atom) : Type 0 where
  pub done : set ≡ unions (sets (entries_of items (drop (length js - i) js)))

pub joining_start : (items : List Item) (js : List ℕ) → Joining items js 0 []
joining_start items js = record { done = ap (λ ks. unions (sets (entries_of items ks))) (sym (drop_of_length-le js (omega arith))) }

pub joining_more : (s : State) (js : List ℕ) (i n j : ℕ) (S set next : List Atom) → Joining s.items js i set → i < length js → n ≡ length js - 1 - i → j ≡ get_or js n j → set_at s j ≡ Some S → next ≡ union S set → Joining s.items js (suc i) next
joining_more s js i n j S set next h l p g e u = record {
  done =
      u
      ∙ ap₂ union (sym (set_found s j S e)) h.done
      ∙ ap (λ m. unions (sets (entry_of s.items j ∷ entries_of s.items (drop m js)))) later
      ∙ ap (λ ks. unions (sets (entries_of s.items ks))) (sym (drop_one js n j below g))
      ∙ ap (λ m. unions (sets (entries_of s.items (drop m js)))) here;
}
  where
    below : n < length js
    below = omega arith

    later : length js - i ≡ suc n
    later = omega arith

    here : n ≡ length js - suc i
    here = omega arith

pub joining_end : (items : List Item) (js : List ℕ) (i : ℕ) (set : List Atom) → Joining items js i set → length js ≤ i → set ≡ unions (sets (entries_of items js))
joining_end items js i set h l = h.done ∙ ap (λ n. unions (sets (entries_of items (drop n js)))) none
  where
    none : length js - i ≡ 0
    none = omega arith
