-- The entry of the type of a variable, by the place of the first variable of its number.
use Rattle.std.proofs.Common.{◌≡◌, ℕ, zero, suc, ◌<◌, ◌≤◌, nat_eq, Bool, true, false, cond, Option, Some, None, List, [], ◌∷◌, refl, sym, ap, ◌∙◌, subst, length, take, map, arith}
use Rattle.std.specs.Prelude.{option_map}
use Rattle.std.proofs.lemmas.Option.{same_Some}
use Rattle.ft_common.proofs.Options.{none_some}
use Rattle.ft_theory.specs.Rules.{look_up}
use Rattle.ft_items.specs.Item.{Name, Item, variable, metavariable, rule, entry, shown}
use Rattle.ft_items.specs.Store.{Assertion, Annotation, Store, annotated, nth, entry_named, empty_store, store_of, type_in, add, add_all, variables_in, declared_by}
use Rattle.ft_items.specs.Good.{Good, GoodAfter, is_plain_type}
use Rattle.ft_items.proofs.Lists.{before_all, store_is, annotated_number, nth_within}
use Rattle.ft_stated.specs.First.{first_place, is_variable_of}
use Rattle.ft_check.specs.Entries.{variable_in, variable_of}
use Rattle.ft_check.proofs.Before.{equal_swapped}

-- the first item that passes a test stands at its place
first_stands : (p : Item → Bool) (items : List Item) (k : ℕ) → first_place p items ≡ Some k → (x : Item) × (nth items k ≡ Some x) × (p x ≡ true)
first_stands p [] k h = none_some h
first_stands p (x ∷ items) k h = go (p x) refl h (first_stands p items)
  where
    go : (b : Bool) → p x ≡ b → cond b (Some 0) (option_map suc (first_place p items)) ≡ Some k → ((k : ℕ) → first_place p items ≡ Some k → (x : Item) × (nth items k ≡ Some x) × (p x ≡ true))
        → (y : Item) × (nth (x ∷ items) k ≡ Some y) × (p y ≡ true)
    go true e h f = (x, ap (nth (x ∷ items)) (sym (same_Some 0 k h)), e)
    go false e h f = later (first_place p items) refl h
      where
        later : (o : Option ℕ) → first_place p items ≡ o → option_map suc o ≡ Some k → (y : Item) × (nth (x ∷ items) k ≡ Some y) × (p y ≡ true)
        later None q h = none_some h
        later (Some j) q h = let s = f j q in (s.0, ap (nth (x ∷ items)) (sym (same_Some (suc j) k h)) ∙ s.1, s.2)

pub first_within : (v : ℕ) (items : List Item) (k : ℕ) → Some k ≡ first_place (is_variable_of v) items → k < length items
first_within v items k h = let s = first_stands (is_variable_of v) items k (sym h) in nth_within items k s.0 s.1

no_place : (o : Option ℕ) → None ≡ option_map suc o → None ≡ o
no_place None h = refl
no_place (Some k) h = none_some h

next_place : (o : Option ℕ) (k : ℕ) → Some k ≡ option_map suc o → (j : ℕ) × (Some j ≡ o) × (k ≡ suc j)
next_place None k h = none_some (sym h)
next_place (Some j) k h = (j, refl, same_Some k (suc j) h)

-- where there is none
absent_in : (v : ℕ) (items : List Item) (i : ℕ) → None ≡ first_place (is_variable_of v) items → None ≡ variable_in v (variables_in (take i items))
absent_in v [] zero h = refl
absent_in v [] (suc i) h = refl
absent_in v (x ∷ items) zero h = refl
absent_in v (variable w n p ∷ items) (suc i) h = go (nat_eq w v) (nat_eq v w) (equal_swapped w v) h (absent_in v items i)
  where
    go : (b c : Bool) → b ≡ c → None ≡ cond b (Some 0) (option_map suc (first_place (is_variable_of v) items)) → (None ≡ first_place (is_variable_of v) items → None ≡ variable_in v (variables_in (take i items)))
        → None ≡ cond c (Some (w, n, p)) (variable_in v (variables_in (take i items)))
    go true c e h f = none_some h
    go false true e h f = let clash : false ≡ true = e in cc
    go false false e h f = f (no_place (first_place (is_variable_of v) items) h)
absent_in v (metavariable n p ∷ items) (suc i) h = absent_in v items i (no_place (first_place (is_variable_of v) items) h)
absent_in v (rule n ms p ∷ items) (suc i) h = absent_in v items i (no_place (first_place (is_variable_of v) items) h)
absent_in v (entry e ∷ items) (suc i) h = absent_in v items i (no_place (first_place (is_variable_of v) items) h)
absent_in v (shown p ∷ items) (suc i) h = absent_in v items i (no_place (first_place (is_variable_of v) items) h)

-- where the first one is later
later_in : (v : ℕ) (items : List Item) (i k : ℕ) → Some k ≡ first_place (is_variable_of v) items → i ≤ k → None ≡ variable_in v (variables_in (take i items))
later_in v [] i k h l = none_some (sym h)
later_in v (x ∷ items) zero k h l = refl
later_in v (variable w n p ∷ items) (suc i) k h l = go (nat_eq w v) (nat_eq v w) (equal_swapped w v) h (λ j q m. later_in v items i j q m)
  where
    go : (b c : Bool) → b ≡ c → Some k ≡ cond b (Some 0) (option_map suc (first_place (is_variable_of v) items)) → ((j : ℕ) → Some j ≡ first_place (is_variable_of v) items → i ≤ j → None ≡ variable_in v (variables_in (take i items)))
        → None ≡ cond c (Some (w, n, p)) (variable_in v (variables_in (take i items)))
    go true c e h f = let zero_is : k ≡ 0 = same_Some k 0 h in absurd (omega (arith, zero_is, l))
    go false true e h f = let clash : false ≡ true = e in cc
    go false false e h f = let s = next_place (first_place (is_variable_of v) items) k h in f s.0 s.1 (omega (arith, s.2, l))
later_in v (metavariable n p ∷ items) (suc i) k h l = let s = next_place (first_place (is_variable_of v) items) k h in later_in v items i s.0 s.1 (omega (arith, s.2, l))
later_in v (rule n ms p ∷ items) (suc i) k h l = let s = next_place (first_place (is_variable_of v) items) k h in later_in v items i s.0 s.1 (omega (arith, s.2, l))
later_in v (entry e ∷ items) (suc i) k h l = let s = next_place (first_place (is_variable_of v) items) k h in later_in v items i s.0 s.1 (omega (arith, s.2, l))
later_in v (shown p ∷ items) (suc i) k h l = let s = next_place (first_place (is_variable_of v) items) k h in later_in v items i s.0 s.1 (omega (arith, s.2, l))

-- where it is earlier
pub type_there : (v : ℕ) (items : List Item) (i k : ℕ) (x : Item) → Some k ≡ first_place (is_variable_of v) items → k < i → nth items k ≡ Some x
    → option_map (λ (y : ℕ × Name × ℕ). y.2) (variable_of x) ≡ option_map (λ (y : ℕ × Name × ℕ). y.2) (variable_in v (variables_in (take i items)))
type_there v [] i k x h l z = none_some z
type_there v (y ∷ items) zero k x h l z = absurd (omega (arith, l))
type_there v (variable w n p ∷ items) (suc i) k x h l z = go (nat_eq w v) (nat_eq v w) (equal_swapped w v) h (λ j q m f. type_there v items i j x q m f)
  where
    go : (b c : Bool) → b ≡ c → Some k ≡ cond b (Some 0) (option_map suc (first_place (is_variable_of v) items))
        → ((j : ℕ) → Some j ≡ first_place (is_variable_of v) items → j < i → nth items j ≡ Some x → option_map (λ (y : ℕ × Name × ℕ). y.2) (variable_of x) ≡ option_map (λ (y : ℕ × Name × ℕ). y.2) (variable_in v (variables_in (take i items))))
        → option_map (λ (y : ℕ × Name × ℕ). y.2) (variable_of x) ≡ option_map (λ (y : ℕ × Name × ℕ). y.2) (cond c (Some (w, n, p)) (variable_in v (variables_in (take i items))))
    go true false q h f = let clash : true ≡ false = q in cc
    go true true q h f =
        let zero_is : k ≡ 0 = same_Some k 0 h in
        let here : nth (variable w n p ∷ items) 0 ≡ Some x = ap (nth (variable w n p ∷ items)) (sym zero_is) ∙ z in
        ap (λ x. option_map (λ (y : ℕ × Name × ℕ). y.2) (variable_of x)) (sym (same_Some (variable w n p) x here))
    go false true q h f = let clash : false ≡ true = q in cc
    go false false q h f = let s = next_place (first_place (is_variable_of v) items) k h in f s.0 s.1 (omega (arith, s.2, l)) (ap (nth (variable w n p ∷ items)) (sym s.2) ∙ z)
type_there v (metavariable n p ∷ items) (suc i) k x h l z = let s = next_place (first_place (is_variable_of v) items) k h in type_there v items i s.0 x s.1 (omega (arith, s.2, l)) (ap (nth (metavariable n p ∷ items)) (sym s.2) ∙ z)
type_there v (rule n ms p ∷ items) (suc i) k x h l z = let s = next_place (first_place (is_variable_of v) items) k h in type_there v items i s.0 x s.1 (omega (arith, s.2, l)) (ap (nth (rule n ms p ∷ items)) (sym s.2) ∙ z)
type_there v (entry e ∷ items) (suc i) k x h l z = let s = next_place (first_place (is_variable_of v) items) k h in type_there v items i s.0 x s.1 (omega (arith, s.2, l)) (ap (nth (entry e ∷ items)) (sym s.2) ∙ z)
type_there v (shown p ∷ items) (suc i) k x h l z = let s = next_place (first_place (is_variable_of v) items) k h in type_there v items i s.0 x s.1 (omega (arith, s.2, l)) (ap (nth (shown p ∷ items)) (sym s.2) ∙ z)

-- The entry of a variable's type is there, and a plain type.
pub record Typed (X : Store) (p : ℕ) : Type 0 where
  pub entry : Assertion
  pub is : entry_named X p ≡ Some entry
  pub type : is_plain_type entry.statement ≡ true

typed_in : (W : Store) (items : List Item) (v : ℕ) (x : ℕ × Name × ℕ) → GoodAfter W items → variable_in v (variables_in items) ≡ Some x → Typed (add_all W items) x.2
typed_in W [] v x g h = none_some h
typed_in W (variable w n p ∷ items) v x g h = go (nat_eq v w) h (typed_in (add W (variable w n p)) items v x g.1)
  where
    go : (b : Bool) → cond b (Some (w, n, p)) (variable_in v (variables_in items)) ≡ Some x → (variable_in v (variables_in items) ≡ Some x → Typed (add_all (add W (variable w n p)) items) x.2) → Typed (add_all W (variable w n p ∷ items)) x.2
    go true h f =
        let same : (w, n, p) ≡ x = same_Some (w, n, p) x h in
        subst (λ (y : ℕ × Name × ℕ). Typed (add_all W (variable w n p ∷ items)) y.2) same
        (record { entry = g.0.1; is = (before_all W (variable w n p ∷ items)).entries p g.0.1 g.0.2; type = g.0.3 })
    go false h f = f h
typed_in W (metavariable n p ∷ items) v x g h = typed_in (add W (metavariable n p)) items v x g.1 h
typed_in W (rule n ms p ∷ items) v x g h = typed_in (add W (rule n ms p)) items v x g.1 h
typed_in W (entry e ∷ items) v x g h = typed_in (add W (entry e)) items v x g.1 h
typed_in W (shown p ∷ items) v x g h = typed_in (add W (shown p)) items v x g.1 h

-- what is declared of a variable of a good list
look_in : (f : ℕ × Name × ℕ → Option Assertion) (v : ℕ) (xs : List (ℕ × Name × ℕ)) → look_up (map (λ (x : ℕ × Name × ℕ). annotated x (f x)) xs) v ≡ option_map (λ (x : ℕ × Name × ℕ). (annotated x (f x)).1) (variable_in v xs)
look_in f v [] = refl
look_in f v (x ∷ xs) =
    ap (λ n. cond (nat_eq v n) (Some (annotated x (f x)).1) (look_up (map (λ (x : ℕ × Name × ℕ). annotated x (f x)) xs) v)) (annotated_number x (f x))
    ∙ go (nat_eq v x.0) (look_in f v xs)
  where
    go : (b : Bool) → look_up (map (λ (x : ℕ × Name × ℕ). annotated x (f x)) xs) v ≡ option_map (λ (x : ℕ × Name × ℕ). (annotated x (f x)).1) (variable_in v xs)
        → cond b (Some (annotated x (f x)).1) (look_up (map (λ (x : ℕ × Name × ℕ). annotated x (f x)) xs) v) ≡ option_map (λ (x : ℕ × Name × ℕ). (annotated x (f x)).1) (cond b (Some x) (variable_in v xs))
    go true h = refl
    go false h = h

pub looked_up : (items : List Item) (v : ℕ) → Good items → look_up (declared_by items).variables v ≡ option_map (λ (x : ℕ × Name × ℕ). (annotated x (entry_named (store_of items) x.2)).1) (variable_in v (variables_in items))
looked_up items v g =
    ap (λ G. look_up G v) ((store_is items g).variables ∙ ap (λ es. map (λ (x : ℕ × Name × ℕ). annotated x (nth es x.2)) (variables_in items)) (sym (store_is items g).entries))
    ∙ look_in (λ x. entry_named (store_of items) x.2) v (variables_in items)

-- A variable that is declared: the entry of its type, its annotation and its set.
pub record Known (X : Store) (p : ℕ) (d : Annotation) : Type 0 where
  pub entry : Assertion
  pub is : entry_named X p ≡ Some entry
  pub type : is_plain_type entry.statement ≡ true
  pub annotation : d.annotation ≡ type_in entry.statement
  pub set : d.set ≡ entry.set

pub annotation_known : (items : List Item) (v p : ℕ) (d : Annotation) → Good items → look_up (declared_by items).variables v ≡ Some d → Some p ≡ option_map (λ (x : ℕ × Name × ℕ). x.2) (variable_in v (variables_in items)) → Known (store_of items) p d
annotation_known items v p d g e h = go (variable_in v (variables_in items)) refl
  where
    X : Store
    X = store_of items

    go : (o : Option (ℕ × Name × ℕ)) → variable_in v (variables_in items) ≡ o → Known X p d
    go None q = none_some (sym (h ∙ ap (option_map (λ (x : ℕ × Name × ℕ). x.2)) q))
    go (Some x) q =
        let place : p ≡ x.2 = same_Some p x.2 (h ∙ ap (option_map (λ (x : ℕ × Name × ℕ). x.2)) q) in
        let t : Typed X x.2 = typed_in empty_store items v x g q in
        let is : (annotated x (entry_named X x.2)).1 ≡ d = same_Some (annotated x (entry_named X x.2)).1 d (sym (looked_up items v g ∙ ap (option_map (λ (x : ℕ × Name × ℕ). (annotated x (entry_named X x.2)).1)) q) ∙ e) in
        let d_is : (annotated x (Some t.entry)).1 ≡ d = ap (λ o. (annotated x o).1) (sym t.is) ∙ is in
        record { entry = t.entry; is = ap (entry_named X) place ∙ t.is; type = t.type; annotation = ap (λ (d : Annotation). d.annotation) (sym d_is); set = ap (λ (d : Annotation). d.set) (sym d_is) }

pub annotation_gone : {P : Type 0} (items : List Item) (v : ℕ) (d : Annotation) → Good items → look_up (declared_by items).variables v ≡ Some d → None ≡ option_map (λ (x : ℕ × Name × ℕ). x.2) (variable_in v (variables_in items)) → P
annotation_gone {P} items v d g e h = go (variable_in v (variables_in items)) refl
  where
    go : (o : Option (ℕ × Name × ℕ)) → variable_in v (variables_in items) ≡ o → P
    go None q = none_some (sym (looked_up items v g ∙ ap (option_map (λ (x : ℕ × Name × ℕ). (annotated x (entry_named (store_of items) x.2)).1)) q) ∙ e)
    go (Some x) q = none_some (h ∙ ap (option_map (λ (x : ℕ × Name × ℕ). x.2)) q)

pub no_annotation : {P : Type 0} (items : List Item) (v p : ℕ) → Good items → look_up (declared_by items).variables v ≡ None → Some p ≡ option_map (λ (x : ℕ × Name × ℕ). x.2) (variable_in v (variables_in items)) → P
no_annotation {P} items v p g e h = go (variable_in v (variables_in items)) refl
  where
    go : (o : Option (ℕ × Name × ℕ)) → variable_in v (variables_in items) ≡ o → P
    go None q = none_some (sym (h ∙ ap (option_map (λ (x : ℕ × Name × ℕ). x.2)) q))
    go (Some x) q = none_some (sym (sym (looked_up items v g ∙ ap (option_map (λ (x : ℕ × Name × ℕ). (annotated x (entry_named (store_of items) x.2)).1)) q) ∙ e))

-- the entry of the type, where there is no variable or a later one
pub type_absent : (v : ℕ) (items : List Item) (i : ℕ) → None ≡ first_place (is_variable_of v) items → None ≡ option_map (λ (x : ℕ × Name × ℕ). x.2) (variable_in v (variables_in (take i items)))
type_absent v items i h = ap (option_map (λ (x : ℕ × Name × ℕ). x.2)) (absent_in v items i h)

pub type_later : (v : ℕ) (items : List Item) (i k : ℕ) → Some k ≡ first_place (is_variable_of v) items → i ≤ k → None ≡ option_map (λ (x : ℕ × Name × ℕ). x.2) (variable_in v (variables_in (take i items)))
type_later v items i k h l = ap (option_map (λ (x : ℕ × Name × ℕ). x.2)) (later_in v items i k h l)
