-- What holds of calls over a list, as the laws state it.
use Rattle.std.specs.Prelude.{ℕ, ◌≡◌, ◌≤◌, Some, Result, Ok}
use Rattle.ft_items.specs.Item.{Name, Stated, by_abs}
use Rattle.ft_items.specs.Store.{Assertion, Store, Resolved, store_of, entry_named, resolve}
use Rattle.ft_items.specs.Store.{with_one, with_two, variables_in}
use Rattle.ft_items.specs.Good.{Good}
use Rattle.ft_reference.specs.Calls.{answer}
use Rattle.ft_base.specs.Budget.{Budget}
use Rattle.ft_meaning.specs.Values.{nucleus, spend, judgement, boundary}
use Rattle.ft_meaning.specs.Forms.{judged, bounded, make_variable, abstract_value}
use Rattle.ft_judge.specs.declared.fault.Fault.{Fault}
use Rattle.ft_kernel.specs.State.{State, next_number, IsEntryOf, IsThesisOf}
use Rattle.ft_kernel.specs.State.{IsBoundaryOf, IsVariableOf}
use Rattle.ft_calls.specs.Answers.{Answers}
use Rattle.ft_calls.specs.Declaring.{DeclaresVariable}
use Rattle.ft_values.specs.Kept.{stated_at, GoesOn}
use Rattle.ft_telling.specs.Telling.{state_of, halted_at, variable_at}
use Rattle.ft_telling.specs.Telling.{TellsJudgement, TellsBoundary, TellsStatement, TellsVariable}

-- a call of a step that names R, as a run that gives a judgement
abbrev pub JudgementsAreTold : Type 0
JudgementsAreTold = (s t : State) (u : Budget) (at : ℕ) (n : Stated) (R : Resolved)
    (r : Result ℕ Fault) → resolve (store_of s.items) n ≡ Some R → Answers s n r t
    → TellsJudgement (judged at (λ W. answer W R) (state_of s u)) (halted_at at r) t u

-- as one that gives a boundary
abbrev pub BoundariesAreTold : Type 0
BoundariesAreTold = (s t : State) (u : Budget) (at : ℕ) (n : Stated) (R : Resolved)
    (r : Result ℕ Fault) → resolve (store_of s.items) n ≡ Some R → Answers s n r t
    → TellsBoundary (bounded at (λ W. answer W R) (state_of s u)) (halted_at at r) t u

-- as one that gives a statement with its set
abbrev pub StatementsAreTold : Type 0
StatementsAreTold = (s t : State) (u : Budget) (at : ℕ) (n : Stated) (R : Resolved)
    (r : Result ℕ Fault) → resolve (store_of s.items) n ≡ Some R → Answers s n r t
    → TellsStatement (nucleus at (λ W. answer W R) (state_of s u)) (halted_at at r) t u

-- a step that names one entry
abbrev pub NamesOne : (Assertion → Resolved) → (ℕ → Stated) → Type 0
NamesOne f n = (W : Store) (p : ℕ) → resolve W (n p) ≡ with_one f (entry_named W p)

abbrev pub CallsOfOneAreTold : Type 0
CallsOfOneAreTold = (f : Assertion → Resolved) (n : ℕ → Stated) → NamesOne f n
    → (s t : State) (u : Budget) (at p : ℕ) (r : Result ℕ Fault)
    → IsEntryOf s p → Answers s (n p) r t
    → TellsJudgement (judged at (λ W. answer W (f (stated_at s p))) (state_of s u))
    (halted_at at r) t u

-- a step that names two
abbrev pub NamesTwo : (Assertion → Assertion → Resolved) → (ℕ → ℕ → Stated) → Type 0
NamesTwo f n = (W : Store) (p q : ℕ)
    → resolve W (n p q) ≡ with_two f (entry_named W p) (entry_named W q)

abbrev pub CallsOfTwoAreTold : Type 0
CallsOfTwoAreTold = (f : Assertion → Assertion → Resolved) (n : ℕ → ℕ → Stated) → NamesTwo f n
    → (s t : State) (u : Budget) (at p q : ℕ) (r : Result ℕ Fault)
    → IsEntryOf s p → IsEntryOf s q → Answers s (n p q) r t
    → TellsJudgement
    (judged at (λ W. answer W (f (stated_at s p) (stated_at s q))) (state_of s u))
    (halted_at at r) t u

-- a new variable, after a unit was spent
abbrev pub VariablesAreTold : Type 0
VariablesAreTold = (s t : State) (u w : Budget) (at : ℕ) (n : Name) (p : ℕ) (r : Result ℕ Fault)
    → Good s.items → next_number (variables_in s.items) ≤ u.used → IsThesisOf s p
    → spend at (state_of s u) ≡ (Ok tt, state_of s w) → DeclaresVariable s u.used n p r t
    → TellsVariable (make_variable at n (stated_at s p) (state_of s u)) (halted_at at r) t w

-- a judgement or a boundary with a variable bound
abbrev pub BoundJudgementsAreTold : Type 0
BoundJudgementsAreTold = (s t : State) (u : Budget) (at v j : ℕ) (r : Result ℕ Fault)
    → Good s.items → IsVariableOf s v → IsThesisOf s j → Answers s (by_abs v j) r t
    → TellsJudgement
    (abstract_value at (variable_at s v) (judgement (stated_at s j)) (state_of s u))
    (halted_at at r) t u

abbrev pub BoundBoundariesAreTold : Type 0
BoundBoundariesAreTold = (s t : State) (u : Budget) (at v b : ℕ) (r : Result ℕ Fault)
    → Good s.items → IsVariableOf s v → IsBoundaryOf s b → Answers s (by_abs v b) r t
    → TellsBoundary
    (abstract_value at (variable_at s v) (boundary (stated_at s b)) (state_of s u))
    (halted_at at r) t u

-- the list after a call, and after a declaration
abbrev pub CallsGoOn : Type 0
CallsGoOn = (s t : State) (n : Stated) (r : Result ℕ Fault) → Answers s n r t → GoesOn s t

abbrev pub DeclarationsGoOn : Type 0
DeclarationsGoOn = (s t : State) (v : ℕ) (n : Name) (p : ℕ) (r : Result ℕ Fault)
    → DeclaresVariable s v n p r t → GoesOn s t
