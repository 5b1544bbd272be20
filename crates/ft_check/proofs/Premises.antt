-- The metavariables of a rule, in a good list.
use Rattle.std.proofs.Common.{◌≡◌, ℕ, zero, suc, ◌+◌, ◌<◌, ◌≤◌, Bool, true, false, ◌&&◌, Option, Some, None, List, [], ◌∷◌, ◌++◌, refl, sym, ap, ap₂, ◌∙◌, length, get_or, take, drop, map, arith}
use Rattle.std.specs.Prelude.{option_map, option_and_then, is_some}
use Rattle.std.specs.List.{list_all}
use Rattle.std.proofs.lemmas.List.{drop_all, drop_more, map-append, take_more}
use Rattle.ft_common.proofs.Options.{is_some-option_map, none_some}
use Rattle.ft_items.specs.Item.{Name, Item}
use Rattle.ft_items.specs.Sets.{Atom, met, is_within}
use Rattle.ft_items.specs.Store.{Assertion, Declared, declared, each, metavariable_named, nth, entries_in, metavariables_in, declared_by}
use Rattle.ft_items.specs.Rows.{atoms, on_earlier}
use Rattle.ft_items.specs.Good.{Good}
use Rattle.ft_items.proofs.Lists.{store_is}
use Rattle.ft_check.specs.Entries.{set_or_none, set_at, boundary_set, rest_on_earlier}
use Rattle.ft_check.proofs.Basics.{each_first, named, nth_map}
use Rattle.ft_check.proofs.Standing.{entries_are}

is_some_each : {A B : Type 0} (f : A → Option B) (xs : List A) → is_some (each f xs) ≡ list_all (λ x. is_some (f x)) xs
is_some_each f [] = refl
is_some_each {A} {B} f (x ∷ xs) = go (f x) (each f xs) (is_some_each f xs)
  where
    go : (o : Option B) (os : Option (List B)) → is_some os ≡ list_all (λ x. is_some (f x)) xs → is_some (option_and_then (λ b. option_map (λ bs. b ∷ bs) os) o) ≡ (is_some o && list_all (λ x. is_some (f x)) xs)
    go None os h = refl
    go (Some y) None h = h
    go (Some y) (Some zs) h = h

all_same : {A : Type 0} (f g : A → Bool) → ((x : A) → f x ≡ g x) → (xs : List A) → list_all f xs ≡ list_all g xs
all_same f g h [] = refl
all_same f g h (x ∷ xs) = ap₂ ◌&&◌ (h x) (all_same f g h xs)

-- each number names a metavariable of the store where it names one of the list
pub named_all : (items : List Item) (ms : List ℕ) → Good items → list_all (λ m. is_some (nth (metavariables_in items) m)) ms ≡ is_some (each (metavariable_named (declared_by items)) ms)
named_all items ms g = sym (is_some_each (metavariable_named (declared_by items)) ms
    ∙ all_same (λ m. is_some (metavariable_named (declared_by items) m)) (λ m. is_some (nth (metavariables_in items) m))
    (λ m. is_some-option_map (λ d. (m, d)) (nth (declared_by items).metavariables m) ∙ ap (λ ds. is_some (nth ds m)) (store_is items g).metavariables
    ∙ ap is_some (nth_map (λ (x : Name × ℕ). declared x (nth (entries_in items) x.1)) (metavariables_in items) m)
    ∙ is_some-option_map (λ (x : Name × ℕ). declared x (nth (entries_in items) x.1)) (nth (metavariables_in items) m)) ms)

pub atoms_are : (items : List Item) (ms : List ℕ) (ds : List (ℕ × Declared)) → each (metavariable_named (declared_by items)) ms ≡ Some ds → atoms ds ≡ map met ms
atoms_are items [] ds h = let same : [] ≡ ds = cc in ap atoms (sym same)
atoms_are items (m ∷ ms) ds h =
    let s = each_first (metavariable_named (declared_by items)) m ms ds h in
    ap atoms s.4 ∙ ap₂ (λ n S. met n ∷ S) (named (declared_by items) m s.0 s.2).0 (atoms_are items ms s.1 s.3)

-- what the boundary of a metavariable rests on
declared_set : (x : Name × ℕ) (o : Option Assertion) → (declared x o).set ≡ set_or_none o
declared_set x None = refl
declared_set x (Some a) = refl

boundary_set_is : (items : List Item) (m : ℕ) (d : Declared) → Good items → nth (declared_by items).metavariables m ≡ Some d → d.set ≡ boundary_set items m
boundary_set_is items m d g h = go (nth (metavariables_in items) m) refl
  where
    f : Name × ℕ → Declared
    f x = declared x (nth (entries_in items) x.1)

    found : option_map f (nth (metavariables_in items) m) ≡ Some d
    found = sym (ap (λ ds. nth ds m) (store_is items g).metavariables ∙ nth_map f (metavariables_in items) m) ∙ h

    go : (o : Option (Name × ℕ)) → nth (metavariables_in items) m ≡ o → d.set ≡ boundary_set items m
    go None e = none_some (sym (ap (option_map f) e) ∙ found)
    go (Some x) e =
        let both : Some (f x) ≡ Some d = sym (ap (option_map f) e) ∙ found in
        let same : f x ≡ d = cc in
        ap (λ (c : Declared). c.set) (sym same) ∙ declared_set x (nth (entries_in items) x.1) ∙ ap set_or_none (sym (entries_are items x.1))
        ∙ ap (λ o. set_at items (option_map (λ (c : Name × ℕ). c.1) o)) (sym e)

pub earlier_is : (items : List Item) (before : List Atom) (ms : List ℕ) (ds : List (ℕ × Declared)) → Good items → each (metavariable_named (declared_by items)) ms ≡ Some ds
    → rest_on_earlier (boundary_set items) before ms ≡ on_earlier before ds
earlier_is items before [] ds g h = let same : [] ≡ ds = cc in ap (on_earlier before) same
earlier_is items before (m ∷ ms) ds g h =
    let s = each_first (metavariable_named (declared_by items)) m ms ds h in
    let n : (s.0.0 ≡ m) × (nth (declared_by items).metavariables m ≡ Some s.0.1) = named (declared_by items) m s.0 s.2 in
    sym (ap (on_earlier before) s.4
    ∙ ap₂ (λ S k. is_within S before && on_earlier (before ++ (met k ∷ [])) s.1) (boundary_set_is items m s.0.1 g n.1) n.0
    ∙ ap (λ b. is_within (boundary_set items m) before && b) (sym (earlier_is items (before ++ (met m ∷ [])) ms s.1 g s.3)))

-- the loop over the metavariables
-- what is left at place k of the list
abbrev pub left_at : (ℕ → List Atom) → List ℕ → ℕ → Bool
left_at S ms k = rest_on_earlier S (map met (take k ms)) (drop k ms)

left_split : (S : ℕ → List Atom) (ms : List ℕ) (k m : ℕ) → k < length ms → m ≡ get_or ms k m → left_at S ms k ≡ (is_within (S m) (map met (take k ms)) && left_at S ms (k + 1))
left_split S ms k m lt e =
    ap (rest_on_earlier S (map met (take k ms))) (drop_more ms k m lt ∙ ap (λ n. n ∷ drop (k + 1) ms) (sym e))
    ∙ ap (λ B. is_within (S m) (map met (take k ms)) && rest_on_earlier S B (drop (k + 1) ms))
    (sym (ap (map met) (take_more ms k m lt ∙ ap (λ n. take k ms ++ n ∷ []) (sym e)) ∙ map-append met (take k ms) (m ∷ [])))

pub left_next : (S : ℕ → List Atom) (ms : List ℕ) (k m : ℕ) (b : Bool) → rest_on_earlier S [] ms ≡ left_at S ms k → k < length ms → m ≡ get_or ms k m → b ≡ is_within (S m) (map met (take k ms)) → b ≡ true → rest_on_earlier S [] ms ≡ left_at S ms (k + 1)
left_next S ms k m b h lt e t f = h ∙ left_split S ms k m lt e ∙ ap (λ c. c && left_at S ms (k + 1)) (sym t ∙ f)

pub left_not : (S : ℕ → List Atom) (ms : List ℕ) (k m : ℕ) (b : Bool) → rest_on_earlier S [] ms ≡ left_at S ms k → k < length ms → m ≡ get_or ms k m → b ≡ is_within (S m) (map met (take k ms)) → b ≡ false → false ≡ rest_on_earlier S [] ms
left_not S ms k m b h lt e t f = sym (h ∙ left_split S ms k m lt e ∙ ap (λ c. c && left_at S ms (k + 1)) (sym t ∙ f))

pub left_end : (S : ℕ → List Atom) (ms : List ℕ) (k : ℕ) → rest_on_earlier S [] ms ≡ left_at S ms k → length ms ≤ k → true ≡ rest_on_earlier S [] ms
left_end S ms k h le = sym (h ∙ ap (rest_on_earlier S (map met (take k ms))) (drop_all k ms le))

-- the members of a list of numbers
pub number_there : (xs : List ℕ) (k m : ℕ) → k < length xs → m ≡ get_or xs k m → nth xs k ≡ Some m
number_there [] k m lt e = absurd (omega (arith, lt))
number_there (x ∷ xs) zero m lt e = ap Some (sym e)
number_there (x ∷ xs) (suc k) m lt e = number_there xs k m (omega (arith, lt)) e
