-- What a declaration answers, where its item is added or it is refused.
use Rattle.std.proofs.Common.{◌≡◌, ◌∙◌, ℕ, ◌≤◌, ◌<◌, ◌+◌, Bool, true, false, Option, Some, None, List, [], ◌∷◌, ◌++◌, refl, sym, ap, ap₂, subst, arith, length, map, length-append}
use Rattle.std.proofs.lemmas.List.{length-map}
use Rattle.std.specs.Prelude.{Result, Ok, Err, option_map}
use Rattle.ft_theory.specs.Statements.{Statement}
use Rattle.ft_items.specs.Sets.{metavariables_only}
use Rattle.ft_items.specs.Item.{Name, Item, variable, metavariable}
use Rattle.ft_items.specs.Store.{Assertion, Annotation, Declarations, declared_variable, declared_metavariable, add_variable, add_metavariable, declared_by, variables_in, metavariables_in}
use Rattle.ft_items.specs.Equal.{is_thesis}
use Rattle.ft_items.specs.Good.{is_plain_type, Good, Allowed}
use Rattle.ft_items.proofs.Lists.{declared_last, store_is, metavariables_append}
use Rattle.ft_reference.specs.Refusals as reference
use Rattle.ft_reference.specs.Refusals.{WrongForm, OpenBoundary}
use Rattle.ft_reference.specs.Declare.{Outcome, outcome, refused_unless, new_variable, first_variable, next_metavariable, new_metavariable}
use Rattle.ft_nucleus_laws.proofs.Declaring.{metavariables_allowed}
use Rattle.ft_syntax.specs.Laws.{extends_same}
use Rattle.ft_judge.specs.declared.fault.Refusal.{Refusal}
use Rattle.ft_judge.specs.declared.fault.Refusal.TheVariants as judge
use Rattle.ft_judge.specs.declared.fault.Fault.TheVariants.{Refused, Memory}
use Rattle.ft_kernel.specs.State.{State, with_item, entry_at, next_number, IsThesisOf, IsBoundaryOf, IsVariableOf}
use Rattle.ft_calls.specs.Answers.{Stays}
use Rattle.ft_calls.specs.Named.{IsNoPlainTypeAt}
use Rattle.ft_calls.specs.Declaring.{DeclaresVariable, DeclaresMetavariable}
use Rattle.ft_calls.proofs.Answering.{declarations, entry_in}
use Rattle.ft_calls.proofs.Variables.{next_is, variable_there}

-- nothing was done
pub stays_same : (s t : State) → t ≡ s → Stays s t
stays_same s t e = (ap (λ (t : State). t.items) e, extends_same s.trees t.trees (ap (λ (t : State). t.trees) e))

-- Variables.

pub variable_allowed : (s : State) (v : ℕ) (n : Name) (p : ℕ) (a : Assertion) → Good s.items → next_number (variables_in s.items) ≤ v → entry_at s p ≡ Some a → is_plain_type a.statement ≡ true → Allowed s.items (variable v n p)
variable_allowed s v n p a g h e t = (next_is s.items v g h, a, entry_in s p a e, t)

-- what is declared, under a number
abbrev numbered : {A : Type 0} → A → ℕ → Result (ℕ × A) reference.Refusal
numbered x v = Ok (v, x)

-- what the reference answers for a plain type
abbrev declaring : State → ℕ → Name → Assertion → Bool → Outcome Declarations (ℕ × Annotation) reference.Refusal
declaring s v n a b = outcome (refused_unless b WrongForm) (declarations s) (add_variable (declarations s) v n (Some a)) (v, declared_variable n a)

pub variable_declared : (s t : State) (v : ℕ) (n : Name) (p w : ℕ) (a : Assertion) → entry_at s p ≡ Some a → is_plain_type a.statement ≡ true → w ≡ v → t ≡ with_item s (variable v n p) → DeclaresVariable s v n p (Ok w) t
variable_declared s t v n p w a e h same u = (
  a,
  e,
  (
    declared_variable n a,
    ap (λ b. (declaring s v n a b).answer) h ∙ ap (numbered (declared_variable n a)) (sym same),
    ap (λ b. (declaring s v n a b).after) h
        ∙ ap (add_variable (declarations s) v n) (sym (entry_in s p a e))
        ∙ sym (declared_last s.items (variable v n p))
        ∙ ap (λ (t : State). declared_by t.items) (sym u),
    ap (λ (t : State). t.items) u,
    extends_same s.trees t.trees (ap (λ (t : State). t.trees) u),
  ),
)

pub variable_refused : (s : State) (v : ℕ) (n : Name) (p : ℕ) (q : Refusal) → IsNoPlainTypeAt s p → q ≡ judge.WrongForm → DeclaresVariable s v n p (Err (Refused q)) s
variable_refused s v n p q h same =
    subst (λ q. DeclaresVariable s v n p (Err (Refused q)) s) (sym same)
    (h.0, h.1, (ap (λ b. (declaring s v n h.0 b).answer) h.2, stays_same s s refl))

pub variable_memory : (s t : State) (v : ℕ) (n : Name) (p : ℕ) → IsThesisOf s p → t ≡ s → DeclaresVariable s v n p (Err Memory) t
variable_memory s t v n p h e = (h.0, h.1, stays_same s t e)

pub declared_there : (s t : State) (v : ℕ) (n : Name) (p w : ℕ) → w ≡ v → t ≡ with_item s (variable v n p) → IsVariableOf t w
declared_there s t v n p w same u = subst (λ w. IsVariableOf t w) (sym same) (subst (λ (t : State). IsVariableOf t v) (sym u) (variable_there s.items v n p))

-- Metavariables.

-- what the reference answers where no variable is in the set
made : (s : State) (n : Name) (a : Assertion) → first_variable a.set ≡ None → (new_metavariable (declarations s) n a).answer ≡ Ok (next_metavariable (declarations s) n a)
made s n a h = ap (λ o. (outcome (option_map OpenBoundary o) (declarations s) (add_metavariable (declarations s) n (Some a)) (next_metavariable (declarations s) n a)).answer) h

pub metavariable_allowed : (s : State) (n : Name) (p : ℕ) (a : Assertion) → entry_at s p ≡ Some a → is_thesis a.statement ≡ false → first_variable a.set ≡ None → Allowed s.items (metavariable n p)
metavariable_allowed s n p a e k h = ((metavariables_allowed s.items p n a k (entry_in s p a e)).0 (made s n a h)).0

-- the next number is the count of the list
counted : (s : State) → Good s.items → length (declarations s).metavariables ≡ length (metavariables_in s.items)
counted s g = ap length (store_is s.items g).metavariables ∙ length-map (metavariables_in s.items) _

pub metavariable_declared : (s t : State) (n : Name) (p w : ℕ) (a : Assertion) → Good s.items → entry_at s p ≡ Some a → is_thesis a.statement ≡ false → first_variable a.set ≡ None
    → w ≡ length (metavariables_in s.items) → t ≡ with_item s (metavariable n p) → DeclaresMetavariable s n p (Ok w) t
metavariable_declared s t n p w a g e k h same u = (
  a,
  e,
  (
    declared_metavariable n a,
    made s n a h ∙ ap (numbered (declared_metavariable n a)) (counted s g ∙ sym same),
    ((metavariables_allowed s.items p n a k (entry_in s p a e)).0 (made s n a h)).1 ∙ ap (λ (t : State). declared_by t.items) (sym u),
    ap (λ (t : State). t.items) u,
    extends_same s.trees t.trees (ap (λ (t : State). t.trees) u),
  ),
)

pub metavariable_refused : (s : State) (n : Name) (p v : ℕ) (a : Assertion) → entry_at s p ≡ Some a → first_variable a.set ≡ Some v → DeclaresMetavariable s n p (Err (Refused (judge.OpenBoundary v))) s
metavariable_refused s n p v a e h =
    (a, e, (ap (λ o. (outcome (option_map OpenBoundary o) (declarations s) (add_metavariable (declarations s) n (Some a)) (next_metavariable (declarations s) n a)).answer) h, stays_same s s refl))

pub metavariable_memory : (s t : State) (n : Name) (p : ℕ) → IsBoundaryOf s p → t ≡ s → DeclaresMetavariable s n p (Err Memory) t
metavariable_memory s t n p h e = (h.0, h.1, stays_same s t e)

pub metavariable_there : (s t : State) (n : Name) (p w : ℕ) → w ≡ length (metavariables_in s.items) → t ≡ with_item s (metavariable n p) → w < length (metavariables_in t.items)
metavariable_there s t n p w same u =
    let more : length (metavariables_in t.items) ≡ length (metavariables_in s.items ++ (n, p) ∷ []) = ap (λ (t : State). length (metavariables_in t.items)) u ∙ ap length (metavariables_append s.items (metavariable n p ∷ [])) in
    let last : length (metavariables_in s.items ++ (n, p) ∷ []) ≡ length (metavariables_in s.items) + 1 = length-append (metavariables_in s.items) ((n, p) ∷ []) in
    omega (arith, same, more, last)
