-- Variables and metavariables of the list, as the store has them.
use Rattle.std.proofs.Common.{◌≡◌, ◌≢◌, ◌∙◌, ℕ, zero, suc, ◌≤◌, nat_eq, Bool, true, false, cond, Option, Some, None, List, [], ◌∷◌, ◌++◌, map, refl, sym, ap, subst, arith, ◌⊎◌, inl, inr}
use Rattle.std.specs.Prelude.{option_map, nat_lt}
use Rattle.std.proofs.lemmas.Bool.{and_from, lt-ltb, eq-eqb}
use Rattle.std.proofs.lemmas.Bool.Decides.{eqb_tells}
use Rattle.std.proofs.lemmas.Option.{same_Some}
use Rattle.ft_common.proofs.Options.{none_some}
use Rattle.ft_common.proofs.Booleans.{true_false}
use Rattle.ft_common.proofs.Choices.{if_same, if_other}
use Rattle.ft_theory.specs.Statements.{Statement, is_type, has_type, equal_types, equal_terms, type_goal, term_goal, type_equation_goal, term_equation_goal, plain, abstracted}
use Rattle.ft_theory.specs.Rules.{look_up}
use Rattle.ft_items.specs.Item.{Name, Item, variable, metavariable, rule, entry, shown}
use Rattle.ft_items.specs.Equal.{is_thesis}
use Rattle.ft_items.specs.Store.{Assertion, Annotation, Declared, Store, nth, add, add_all, empty_store, store_of, declared_by, entry_named, entries_in, variables_in, metavariables_in, annotated, declared}
use Rattle.ft_items.specs.Good.{is_plain_type, is_next, Good, GoodAfter}
use Rattle.ft_items.proofs.Lists.{store_is, before_add, before_all, annotated_number, entries_all, nth_end}
use Rattle.ft_kernel.specs.State.{State, entry_at, variable_numbered, next_number}
use Rattle.ft_calls.specs.Named.{IsVariableAt, IsMetavariableAt}

-- the variables of the store are those of the list
abbrev annotations : List Assertion → List (ℕ × Name × ℕ) → List (ℕ × Annotation)
annotations es vs = map (λ (x : ℕ × Name × ℕ). annotated x (nth es x.2)) vs

numbers_next : (es : List Assertion) (vs : List (ℕ × Name × ℕ)) (v : ℕ) → next_number vs ≤ v → is_next (annotations es vs) v ≡ true
numbers_next es [] v h = refl
numbers_next es (x ∷ vs) v h =
    and_from (nat_lt (annotated x (nth es x.2)).0 v) (is_next (annotations es vs) v)
    (ap (λ n. nat_lt n v) (annotated_number x (nth es x.2)) ∙ lt-ltb x.0 v (omega (arith, h)))
    (numbers_next es vs v (omega (arith, h)))

-- a number that is not below the next one is that of a further variable
pub next_is : (items : List Item) (v : ℕ) → Good items → next_number (variables_in items) ≤ v → is_next (declared_by items).variables v ≡ true
next_is items v g h = ap (λ G. is_next G v) (store_is items g).variables ∙ numbers_next (entries_in items) (variables_in items) v h

-- what a variable declares, by its name and its entry
abbrev with_entry : ℕ → List Assertion → Name × ℕ → Annotation
with_entry v es y = (annotated (v, y.0, y.1) (nth es y.1)).1

same_annotation : (x : ℕ × Name × ℕ) (v : ℕ) (o : Option Assertion) → (annotated x o).1 ≡ (annotated (v, x.1, x.2) o).1
same_annotation x v None = refl
same_annotation x v (Some a) = refl

looked_up : (es : List Assertion) (vs : List (ℕ × Name × ℕ)) (v : ℕ) → look_up (annotations es vs) v ≡ option_map (with_entry v es) (variable_numbered vs v)
looked_up es [] v = refl
looked_up es (x ∷ vs) v = ap (λ n. cond (nat_eq v n) (Some (annotated x (nth es x.2)).1) (look_up (annotations es vs) v)) (annotated_number x (nth es x.2)) ∙ go (eqb_tells x.0 v) (looked_up es vs v)
  where
    go : ((nat_eq x.0 v ≡ true) × (x.0 ≡ v)) ⊎ ((nat_eq x.0 v ≡ false) × (x.0 ≢ v)) → look_up (annotations es vs) v ≡ option_map (with_entry v es) (variable_numbered vs v)
        → cond (nat_eq v x.0) (Some (annotated x (nth es x.2)).1) (look_up (annotations es vs) v) ≡ option_map (with_entry v es) (cond (nat_eq x.0 v) (Some (x.1, x.2)) (variable_numbered vs v))
    go (inl t) ih =
        if_same v x.0 (Some (annotated x (nth es x.2)).1) (look_up (annotations es vs) v) (sym t.1)
        ∙ ap Some (same_annotation x v (nth es x.2))
        ∙ ap (λ b. option_map (with_entry v es) (cond b (Some (x.1, x.2)) (variable_numbered vs v))) (sym t.0)
    go (inr f) ih =
        if_other v x.0 (Some (annotated x (nth es x.2)).1) (look_up (annotations es vs) v) (λ e. f.1 (sym e))
        ∙ ih
        ∙ ap (λ b. option_map (with_entry v es) (cond b (Some (x.1, x.2)) (variable_numbered vs v))) (sym f.0)

-- the entry of a variable is a plain type
abbrev HasPlainType : Store → ℕ → Type 0
HasPlainType W p = (a : Assertion) × (entry_named W p ≡ Some a) × (is_plain_type a.statement ≡ true)

plain_types : (W : Store) (items : List Item) → GoodAfter W items → (v : ℕ) (x : Name × ℕ) → variable_numbered (variables_in items) v ≡ Some x → HasPlainType (add_all W items) x.1
plain_types W [] g v x h = none_some h
plain_types W (variable w m q ∷ items) g v x h = go (nat_eq w v) h (λ k. plain_types (add W (variable w m q)) items g.1 v x k)
  where
    here : HasPlainType (add_all (add W (variable w m q)) items) q
    here = (g.0.1, (before_all (add W (variable w m q)) items).entries q g.0.1 ((before_add W (variable w m q)).entries q g.0.1 g.0.2), g.0.3)

    go : (b : Bool) → cond b (Some (m, q)) (variable_numbered (variables_in items) v) ≡ Some x → (variable_numbered (variables_in items) v ≡ Some x → HasPlainType (add_all (add W (variable w m q)) items) x.1)
        → HasPlainType (add_all (add W (variable w m q)) items) x.1
    go true h ih = subst (λ (y : Name × ℕ). HasPlainType (add_all (add W (variable w m q)) items) y.1) (same_Some (m, q) x h) here
    go false h ih = ih h
plain_types W (metavariable n p ∷ items) g v x h = plain_types (add W (metavariable n p)) items g.1 v x h
plain_types W (rule n ms p ∷ items) g v x h = plain_types (add W (rule n ms p)) items g.1 v x h
plain_types W (entry e ∷ items) g v x h = plain_types (add W (entry e)) items g.1 v x h
plain_types W (shown p ∷ items) g v x h = plain_types W items g.1 v x h

-- a variable of a good list is declared with its entry
pub variable_is : (s : State) (v : ℕ) (n : Name) (p : ℕ) → Good s.items → variable_numbered (variables_in s.items) v ≡ Some (n, p) → IsVariableAt s v p
variable_is s v n p g h =
    let es : List Assertion = entries_in s.items in
    let t : HasPlainType (store_of s.items) p = plain_types empty_store s.items g v (n, p) h in
    let at : nth es p ≡ Some t.0 = ap (λ X. nth X p) (sym (entries_all empty_store s.items)) ∙ t.1 in (
      n,
      t.0,
      at,
      t.2,
      ap (λ G. look_up G v) (store_is s.items g).variables
          ∙ looked_up es (variables_in s.items) v
          ∙ ap (option_map (with_entry v es)) h
          ∙ ap (λ o. Some (annotated (v, n, p) o).1) at,
    )

-- a number that no variable of the list has is none in the store
pub no_variable : (s : State) (v : ℕ) → Good s.items → variable_numbered (variables_in s.items) v ≡ None → look_up (declared_by s.items).variables v ≡ None
no_variable s v g h = ap (λ G. look_up G v) (store_is s.items g).variables ∙ looked_up (entries_in s.items) (variables_in s.items) v ∙ ap (option_map (with_entry v (entries_in s.items))) h

-- a metavariable of a good list is declared with its entry
boundaries_are : (W : Store) (items : List Item) → GoodAfter W items → (m : ℕ) (x : Name × ℕ) → nth (metavariables_in items) m ≡ Some x
    → (a : Assertion) × (entry_named (add_all W items) x.1 ≡ Some a) × (is_thesis a.statement ≡ false)
boundaries_are W [] g m x h = none_some h
boundaries_are W (metavariable n q ∷ items) g zero x h =
    subst (λ (y : Name × ℕ). (a : Assertion) × (entry_named (add_all (add W (metavariable n q)) items) y.1 ≡ Some a) × (is_thesis a.statement ≡ false)) (same_Some (n, q) x h)
    (g.0.0, (before_all (add W (metavariable n q)) items).entries q g.0.0 ((before_add W (metavariable n q)).entries q g.0.0 g.0.1), g.0.2)
boundaries_are W (metavariable n q ∷ items) g (suc m) x h = boundaries_are (add W (metavariable n q)) items g.1 m x h
boundaries_are W (variable v n p ∷ items) g m x h = boundaries_are (add W (variable v n p)) items g.1 m x h
boundaries_are W (rule n ms p ∷ items) g m x h = boundaries_are (add W (rule n ms p)) items g.1 m x h
boundaries_are W (entry e ∷ items) g m x h = boundaries_are (add W (entry e)) items g.1 m x h
boundaries_are W (shown p ∷ items) g m x h = boundaries_are W items g.1 m x h

-- a plain type is a thesis
pub plain_type_thesis : (x : Statement) → is_plain_type x ≡ true → is_thesis x ≡ true
plain_type_thesis (plain (is_type A)) h = refl
plain_type_thesis (plain (has_type t A)) h = true_false (sym h)
plain_type_thesis (plain (equal_types A B)) h = true_false (sym h)
plain_type_thesis (plain (equal_terms s t A)) h = true_false (sym h)
plain_type_thesis (plain type_goal) h = true_false (sym h)
plain_type_thesis (plain (term_goal A)) h = true_false (sym h)
plain_type_thesis (plain (type_equation_goal A B)) h = true_false (sym h)
plain_type_thesis (plain (term_equation_goal s t A)) h = true_false (sym h)
plain_type_thesis (abstracted A x) h = true_false (sym h)

-- the last variable is there
variables_end : (items : List Item) (v : ℕ) (n : Name) (p : ℕ) → variables_in (items ++ variable v n p ∷ []) ≡ variables_in items ++ (v, n, p) ∷ []
variables_end [] v n p = refl
variables_end (variable w m q ∷ items) v n p = ap (λ X. (w, m, q) ∷ X) (variables_end items v n p)
variables_end (metavariable m q ∷ items) v n p = variables_end items v n p
variables_end (rule m ms q ∷ items) v n p = variables_end items v n p
variables_end (entry e ∷ items) v n p = variables_end items v n p
variables_end (shown q ∷ items) v n p = variables_end items v n p

number_there : (vs : List (ℕ × Name × ℕ)) (v : ℕ) (n : Name) (p : ℕ) → (x : Name × ℕ) × (variable_numbered (vs ++ (v, n, p) ∷ []) v ≡ Some x)
number_there [] v n p = ((n, p), ap (λ b. cond b (Some (n, p)) None) (eq-eqb v v refl))
number_there (w ∷ vs) v n p = go (nat_eq w.0 v) (number_there vs v n p)
  where
    go : (b : Bool) → (x : Name × ℕ) × (variable_numbered (vs ++ (v, n, p) ∷ []) v ≡ Some x) → (x : Name × ℕ) × (cond b (Some (w.1, w.2)) (variable_numbered (vs ++ (v, n, p) ∷ []) v) ≡ Some x)
    go true h = ((w.1, w.2), refl)
    go false h = h

pub variable_there : (items : List Item) (v : ℕ) (n : Name) (p : ℕ) → (x : Name × ℕ) × (variable_numbered (variables_in (items ++ variable v n p ∷ [])) v ≡ Some x)
variable_there items v n p = subst (λ vs. (x : Name × ℕ) × (variable_numbered vs v ≡ Some x)) (sym (variables_end items v n p)) (number_there (variables_in items) v n p)
