-- What the calls that substitute find out before anything is formed.
use Rattle.std.specs.Prelude.{ℕ, ◌≡◌, Bool, true, false, Some, Result, Ok, Err, List}
use Rattle.ft_theory.specs.Expressions.{Expression}
use Rattle.ft_theory.specs.Statements.{has_type, Claim, Statement, plain, opened}
use Rattle.ft_items.specs.Rows.{substitution}
use Rattle.ft_reference.specs.Refusals.{first_refusal, forms_statement}
use Rattle.ft_reference.specs.Checks.{substitution_checks}
use Rattle.ft_syntax.specs.Table.{tree}
use Rattle.ft_judge.specs.Meaning.{under, thesis_in}
use Rattle.ft_judge.specs.declared.judgement.Thesis.{Thesis}
use Rattle.ft_judge.specs.declared.fault.Refusal.{Refusal}
use Rattle.ft_calls.specs.Forming.{Refuses}

-- the test for a plain term
abbrev pub is_plain_term : Statement → Bool
is_plain_term (plain (has_type t A)) = true
is_plain_term x = false

-- the thesis states the term with its type, over each table
abbrev pub StatesTerm : Thesis → ℕ → ℕ → Type 0
StatesTerm y t A = (ts : List Expression) → thesis_in ts y ≡ plain (has_type (tree ts t) (tree ts A))

-- the thesis states no plain term, over each table
abbrev pub StatesNoTerm : Thesis → Type 0
StatesNoTerm y = (ts : List Expression) → is_plain_term (thesis_in ts y) ≡ false

-- The term of Y can be put in X, and this is what comes then: only what is formed may still be refused.
abbrev pub PutsTerm : Statement → Statement → Expression → Type 0
PutsTerm X Y t = (substitution X Y ≡ Some (opened t X)) × (first_refusal (substitution_checks X Y) ≡ first_refusal (forms_statement (opened t X)))

-- the term that is put in a statement under the domains, or why there is none
abbrev pub FindsTerm : List Expression → List ℕ → Thesis → Result ℕ Refusal → Type 0
FindsTerm ts ds y (Ok t) = (c : Claim) → PutsTerm (under ts ds (plain c)) (thesis_in ts y) (tree ts t)
FindsTerm ts ds y (Err r) = (c : Claim) → Refuses ts (substitution_checks (under ts ds (plain c)) (thesis_in ts y)) r
