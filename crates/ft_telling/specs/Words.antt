-- What holds of words and of rules at arguments, as the laws state it.
use Rattle.std.specs.Prelude.{ℕ, ◌≡◌, Bool, true, false, Some, Result, List, [], ◌∷◌}
use Rattle.ft_theory.specs.Rules.{Rule}
use Rattle.ft_theory.specs.Statements.{equal_terms, Statement, plain}
use Rattle.ft_items.specs.Item.{Stated, by_inst, by_rule, by_boundary}
use Rattle.ft_items.specs.Store.{Assertion, declared_by, rule_named}
use Rattle.ft_reference.specs.Nucleus as reference
use Rattle.ft_grammar.specs.declared.form.OneForm.{OneForm}
use Rattle.ft_grammar.specs.declared.form.OneForm.TheVariants as one
use Rattle.ft_grammar.specs.declared.form.TwoForm.{TwoForm}
use Rattle.ft_grammar.specs.declared.form.TwoForm.TheVariants as two
use Rattle.ft_base.specs.Budget.{Budget}
use Rattle.ft_meaning.specs.Values.{nucleus, judgement, boundary}
use Rattle.ft_meaning.specs.Forms.{word_at, word_at_two, judged}
use Rattle.ft_judge.specs.declared.fault.Fault.{Fault}
use Rattle.ft_kernel.specs.State.{State, IsEntryOf, IsThesisOf, IsBoundaryOf}
use Rattle.ft_calls.specs.Answers.{Answers}
use Rattle.ft_values.specs.Kept.{stated_at}
use Rattle.ft_telling.specs.Telling.{state_of, halted_at}
use Rattle.ft_telling.specs.Telling.{TellsJudgement, TellsBoundary, TellsStatement}

-- the word at a judgement, where its call states the step n
abbrev pub WordIsTold : OneForm → (ℕ → Stated) → Type 0
WordIsTold word n = (s t : State) (u : Budget) (at j : ℕ) (r : Result ℕ Fault)
    → IsThesisOf s j → Answers s (n j) r t
    → TellsJudgement (word_at at word (judgement (stated_at s j)) (state_of s u))
    (halted_at at r) t u

-- the word at a boundary
abbrev pub BoundaryWordIsTold : OneForm → (ℕ → Stated) → Type 0
BoundaryWordIsTold word n = (s t : State) (u : Budget) (at b : ℕ) (r : Result ℕ Fault)
    → IsBoundaryOf s b → Answers s (n b) r t
    → TellsJudgement (word_at at word (boundary (stated_at s b)) (state_of s u))
    (halted_at at r) t u

-- the word `boundaryof`
abbrev pub BoundaryofIsTold : Type 0
BoundaryofIsTold = (s t : State) (u : Budget) (at j : ℕ) (r : Result ℕ Fault)
    → IsThesisOf s j → Answers s (by_boundary j) r t
    → TellsBoundary (word_at at one.Boundaryof (judgement (stated_at s j)) (state_of s u))
    (halted_at at r) t u

-- the word at the judgements i and j is told so
abbrev pub TellsPair : TwoForm → State → Budget → ℕ → ℕ → ℕ → ℕ → Result ℕ Fault → State → Type 0
TellsPair word s u at second i j r t =
    TellsJudgement
    (word_at_two at second word (judgement (stated_at s i)) (judgement (stated_at s j))
    (state_of s u))
    (halted_at at r) t u

-- the word at two judgements, where its call states the step n
abbrev pub PairWordIsTold : TwoForm → (ℕ → ℕ → Stated) → Type 0
PairWordIsTold word n = (s t : State) (u : Budget) (at second i j : ℕ) (r : Result ℕ Fault)
    → IsThesisOf s i → IsThesisOf s j → Answers s (n i j) r t → TellsPair word s u at second i j r t

-- the test for an equation of terms without domains
abbrev pub is_term_equation : Statement → Bool
is_term_equation (plain (equal_terms s t A)) = true
is_term_equation x = false

-- the word `convert` at a judgement that is an equation of terms, or is none
abbrev pub ConvertIsTold : Bool → (ℕ → ℕ → Stated) → Type 0
ConvertIsTold b n = (s t : State) (u : Budget) (at second i j : ℕ) (r : Result ℕ Fault)
    → IsThesisOf s i → IsThesisOf s j → b ≡ is_term_equation (stated_at s i).statement
    → Answers s (n i j) r t → TellsPair two.Convert s u at second i j r t

-- what entries state, in their order
abbrev pub stated_all : State → List ℕ → List Assertion
stated_all s [] = []
stated_all s (j ∷ js) = stated_at s j ∷ stated_all s js

-- each number is that of an entry
abbrev pub AreEntriesOf : State → List ℕ → Type 0
AreEntriesOf s [] = Unit {0}
AreEntriesOf s (j ∷ js) = IsEntryOf s j × AreEntriesOf s js

-- the conclusion of a rule at arguments
abbrev pub ConclusionsAreTold : Type 0
ConclusionsAreTold = (s t : State) (u : Budget) (at r : ℕ) (R : ℕ × Rule) (js : List ℕ)
    (o : Result ℕ Fault) → rule_named (declared_by s.items) r ≡ Some R → AreEntriesOf s js
    → Answers s (by_rule r js) o t
    → TellsJudgement (judged at (λ W. reference.apply W R (stated_all s js)) (state_of s u))
    (halted_at at o) t u

-- the boundary of the premise after arguments
abbrev pub PremisesAreTold : Type 0
PremisesAreTold = (s t : State) (u : Budget) (at r : ℕ) (R : ℕ × Rule) (js : List ℕ)
    (o : Result ℕ Fault) → rule_named (declared_by s.items) r ≡ Some R → AreEntriesOf s js
    → Answers s (by_inst r js) o t
    → TellsStatement
    (nucleus at (λ W. reference.next_boundary W R (stated_all s js)) (state_of s u))
    (halted_at at o) t u
