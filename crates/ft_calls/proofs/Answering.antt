-- What a call answers, by what its parts found out.
use Rattle.std.proofs.Common.{◌≡◌, ℕ, true, cond, Option, Some, None, ap, ap₂, ◌∙◌, refl}
use Rattle.std.specs.Prelude.{Ok, Err, List, option_map}
use Rattle.ft_theory.specs.Statements.{Statement}
use Rattle.ft_items.specs.Sets.{Atom}
use Rattle.ft_items.specs.Item.{Stated}
use Rattle.ft_items.specs.Store.{Assertion, Store, Resolved, empty_store, store_of, entry_named, resolve, with_one, with_two, with_three, Declarations, declared_by}
use Rattle.ft_items.specs.Rows.{conclusion, result_set}
use Rattle.ft_items.specs.Good.{of_kind, given}
use Rattle.ft_items.proofs.Lists.{entries_all}
use Rattle.ft_items.specs.Store.{nth}
use Rattle.ft_reference.specs.Checks.{checks}
use Rattle.ft_reference.specs.Calls.{answered}
use Rattle.ft_judge.specs.declared.fault.Refusal.{Refusal}
use Rattle.ft_judge.specs.declared.fault.Fault.TheVariants.{Refused}
use Rattle.ft_syntax.specs.Laws.{extends_same}
use Rattle.ft_kernel.specs.State.{State, entry_at, statement_at}
use Rattle.ft_calls.specs.Answers.{IsAnswer, Answers, Stays}
use Rattle.ft_calls.specs.Forming.{Gives, Refuses}
use Rattle.ft_common.proofs.Options.{none_some}
use Rattle.std.proofs.lemmas.Option.{same_Some}

-- The store of the list, and the declarations.
abbrev pub store : State → Store
store s = store_of s.items

abbrev pub declarations : State → Declarations
declarations s = declared_by s.items

-- what a number names in the store is what it names in the list
pub entry_in : (s : State) (j : ℕ) (a : Assertion) → entry_at s j ≡ Some a → entry_named (store s) j ≡ Some a
entry_in s j a h = ap (λ es. nth es j) (entries_all empty_store s.items) ∙ h

-- Steps with what they name.

pub resolves_one : (s : State) (n : Stated) (f : Assertion → Resolved) (p : ℕ) (P : Assertion) → resolve (store s) n ≡ with_one f (entry_named (store s) p) → entry_at s p ≡ Some P → resolve (store s) n ≡ Some (f P)
resolves_one s n f p P e h = e ∙ ap (with_one f) (entry_in s p P h)

pub resolves_two : (s : State) (n : Stated) (f : Assertion → Assertion → Resolved) (p q : ℕ) (P Q : Assertion) → resolve (store s) n ≡ with_two f (entry_named (store s) p) (entry_named (store s) q)
    → entry_at s p ≡ Some P → entry_at s q ≡ Some Q → resolve (store s) n ≡ Some (f P Q)
resolves_two s n f p q P Q e h k = e ∙ ap₂ (with_two f) (entry_in s p P h) (entry_in s q Q k)

pub resolves_three : (s : State) (n : Stated) (f : Assertion → Assertion → Assertion → Resolved) (p q r : ℕ) (P Q R : Assertion)
    → resolve (store s) n ≡ with_three f (entry_named (store s) p) (entry_named (store s) q) (entry_named (store s) r) → entry_at s p ≡ Some P → entry_at s q ≡ Some Q → entry_at s r ≡ Some R → resolve (store s) n ≡ Some (f P Q R)
resolves_three s n f p q r P Q R e h k l =
    e ∙ ap₂ (λ a b. with_three f a b (entry_named (store s) r)) (entry_in s p P h) (entry_in s q Q k) ∙ ap (with_three f (Some P) (Some Q)) (entry_in s r R l)

-- the answer of a step with what it names
pub answered_ok : (s : State) (n : Stated) (r : Resolved) (x : Statement) → resolve (store s) n ≡ Some r → of_kind r ≡ true → Gives (checks (declarations s) r) (conclusion (declarations s) r) x
    → IsAnswer s n (Ok (record { statement = x; set = result_set r }))
answered_ok s n r x e k g = (r, e, ap₂ answered g.0 (ap₂ (λ b o. cond b (option_map (λ x. record { statement = x; set = result_set r }) o) None) k g.1))

-- its refusal
pub refused : (s t : State) (n : Stated) (r : Resolved) (q : Refusal) → resolve (store s) n ≡ Some r → Refuses t.trees (checks (declarations s) r) q → Stays s t → Answers s n (Err (Refused q)) t
refused s t n r q e h k = ((r, e, ap (λ o. answered o (given (declarations s) r)) h.0), h.1, k)

-- the assertion of a statement and a set
abbrev pub rests : Statement → List Atom → Assertion
rests x S = record { statement = x; set = S }

-- A refusal, where the list is as before.

pub refused_here : (s : State) (n : Stated) (r : Resolved) (q : Refusal) → resolve (store s) n ≡ Some r → Refuses s.trees (checks (declarations s) r) q → Answers s n (Err (Refused q)) s
refused_here s n r q e k = refused s s n r q e k (refl, extends_same s.trees s.trees refl)

-- an entry of this statement
pub with_statement : (s : State) (j : ℕ) (x : Statement) → statement_at s j ≡ Some x → (S : List Atom) × (entry_at s j ≡ Some (rests x S))
with_statement s j x h = go (entry_at s j) refl h
  where
    go : (o : Option Assertion) → entry_at s j ≡ o → option_map (λ (a : Assertion). a.statement) o ≡ Some x → (S : List Atom) × (entry_at s j ≡ Some (rests x S))
    go None e k = none_some k
    go (Some a) e k = (a.set, e ∙ ap (λ x. Some (rests x a.set)) (same_Some a.statement x k))
