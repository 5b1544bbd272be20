-- What the parts of a call find out before anything is added: whether its checks hold, and what its row gives.
use Rattle.std.specs.Prelude.{ℕ, ◌≡◌, Bool, false, List, length, Option, Some, None, Result, Ok, Err}
use Rattle.ft_theory.specs.Expressions.{Expression}
use Rattle.ft_theory.specs.Statements.{Statement, plain}
use Rattle.ft_items.specs.Equal.{equal_expressions, is_plain}
use Rattle.ft_items.specs.Store.{Assertion}
use Rattle.ft_reference.specs.Refusals.{Check, first_refusal}
use Rattle.ft_syntax.specs.Table.{tree}
use Rattle.ft_judge.specs.Meaning.{claim_in, goal_in}
use Rattle.ft_judge.specs.declared.judgement.Form.{Form}
use Rattle.ft_judge.specs.declared.judgement.Goal.{Goal}
use Rattle.ft_judge.specs.declared.fault.Differ.{Differ}
use Rattle.ft_judge.specs.declared.fault.Refusal.{Refusal}
use Rattle.ft_kernel.specs.State.{State, entry_at}
use Rattle.ft_calls.specs.Answers.{refusal_in, RefusalBelow}

-- the test that two expressions of a table are the same
abbrev pub equal_in : List Expression → ℕ → ℕ → Bool
equal_in ts e f = equal_expressions (tree ts e) (tree ts f)

-- two expressions of a table that differ, under so many domains
abbrev pub differ_at : ℕ → ℕ → ℕ → Differ
differ_at n found wanted = record { found = found; wanted = wanted; under = n }

-- no check fails, and the row gives the statement
abbrev pub Gives : List Check → Option Statement → Statement → Type 0
Gives cs row x = (first_refusal cs ≡ None) × (row ≡ Some x)

-- the refusal is that of the first check that fails
abbrev pub Refuses : List Expression → List Check → Refusal → Type 0
Refuses ts cs r = (first_refusal cs ≡ Some (refusal_in ts r)) × RefusalBelow (length ts) r

-- A call's checks and its row formed this, seen as a statement, or refused.
abbrev pub Forms : {A : Type 0} → (A → Statement) → List Expression → List Check → Option Statement → Result A Refusal → Type 0
Forms seen ts cs row (Ok x) = Gives cs row (seen x)
Forms seen ts cs row (Err r) = Refuses ts cs r

-- a form and a goal of a table, as statements without domains
abbrev pub plain_in : List Expression → Form → Statement
plain_in ts f = plain (claim_in ts f)

abbrev pub plain_goal_in : List Expression → Goal → Statement
plain_goal_in ts g = plain (goal_in ts g)

-- The same for a call whose checks and row are of one, two or three statements, here forms of a table without domains.
abbrev pub FormsOne : {A : Type 0} → (List Expression → A → Statement) → (Statement → List Check) → (Statement → Option Statement)
    → List Expression → Form → Result A Refusal → Type 0
FormsOne seen cs row ts x r = Forms (seen ts) ts (cs (plain_in ts x)) (row (plain_in ts x)) r

abbrev pub FormsTwo : {A : Type 0} → (List Expression → A → Statement) → (Statement → Statement → List Check) → (Statement → Statement → Option Statement)
    → List Expression → Form → Form → Result A Refusal → Type 0
FormsTwo seen cs row ts x y r = Forms (seen ts) ts (cs (plain_in ts x) (plain_in ts y)) (row (plain_in ts x) (plain_in ts y)) r

abbrev pub FormsThree : {A : Type 0} → (List Expression → A → Statement) → (Statement → Statement → Statement → List Check) → (Statement → Statement → Statement → Option Statement)
    → List Expression → Form → Form → Form → Result A Refusal → Type 0
FormsThree seen cs row ts x y z r =
    Forms (seen ts) ts (cs (plain_in ts x) (plain_in ts y) (plain_in ts z)) (row (plain_in ts x) (plain_in ts y) (plain_in ts z)) r

-- the entry of a number has domains
abbrev pub HasDomains : State → ℕ → Type 0
HasDomains s j = (a : Assertion) × (entry_at s j ≡ Some a) × (is_plain a.statement ≡ false)
