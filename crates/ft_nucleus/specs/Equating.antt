-- What the call that puts equal terms finds out before anything is formed, and what it forms.
use Rattle.std.specs.Prelude.{ℕ, zero, ◌≡◌, Bool, true, false, Some, Result, Ok, Err, List}
use Rattle.ft_theory.specs.Expressions.{Expression, bound, open_at}
use Rattle.ft_theory.specs.Statements.{equal_terms, Statement, plain, abstracted, opened, domain_count, boundary_of, boundary_of_claim, equate, equate_goal}
use Rattle.ft_items.specs.Equal.{has_head, head, head_of_claim}
use Rattle.ft_items.specs.Rows.{equal_substitution}
use Rattle.ft_reference.specs.Refusals.{AllSmall, expressions, first_refusal, forms_statement}
use Rattle.ft_reference.specs.Checks.{equal_substitution_checks}
use Rattle.ft_syntax.specs.Table.{tree}
use Rattle.ft_judge.specs.Meaning.{claim_in, thesis_in}
use Rattle.ft_judge.specs.declared.judgement.Form.{Form}
use Rattle.ft_judge.specs.declared.judgement.Thesis.{Thesis}
use Rattle.ft_judge.specs.declared.fault.Refusal.{Refusal}
use Rattle.ft_calls.specs.Forming.{Refuses}

-- the test for a plain equation of terms
abbrev pub is_plain_term_equation : Statement → Bool
is_plain_term_equation (plain (equal_terms s t A)) = true
is_plain_term_equation x = false

-- the thesis states the equation of two terms at a type, over each table
abbrev pub StatesEquation : Thesis → ℕ → ℕ → ℕ → Type 0
StatesEquation y s t A = (ts : List Expression) → thesis_in ts y ≡ plain (equal_terms (tree ts s) (tree ts t) (tree ts A))

-- the thesis states no plain equation of terms, over each table
abbrev pub StatesNoEquation : Thesis → Type 0
StatesNoEquation y = (ts : List Expression) → is_plain_term_equation (thesis_in ts y) ≡ false

-- the head of a type or term with the term for the variable of its first domain; without a domain a dummy
abbrev pub opened_head : Statement → Expression → Expression
opened_head (plain c) t = bound zero
opened_head (abstracted A x) t = open_at (domain_count x) t (head x)

-- a type or term with the left side for the variable of its first domain equals it with the right side
abbrev pub equated_at : Statement → Expression → Expression → Statement
equated_at X s t = equate (opened s (boundary_of X)) (opened_head X s) (opened_head X t)

-- the form is the equation of a type or term with another, over each table
abbrev pub IsEqualTo : Form → ℕ → Form → Type 0
IsEqualTo f e g = (ts : List Expression) → claim_in ts g ≡ equate_goal (boundary_of_claim (claim_in ts f)) (head_of_claim (claim_in ts f)) (tree ts e)

-- The sides of Y can be put in X, and this is what comes then: only what is formed may still be refused.
abbrev pub PutsEquation : Statement → Statement → Expression → Expression → Type 0
PutsEquation X Y s t = (has_head X ≡ true) × (equal_substitution X Y ≡ Some (equated_at X s t)) × (first_refusal (equal_substitution_checks X Y) ≡ first_refusal (forms_statement (equated_at X s t)))

-- the sides that are put in the thesis, or why there are none
abbrev pub FindsEquation : List Expression → Thesis → Thesis → Result (ℕ × ℕ) Refusal → Type 0
FindsEquation ts x y (Ok p) = PutsEquation (thesis_in ts x) (thesis_in ts y) (tree ts p.0) (tree ts p.1)
FindsEquation ts x y (Err r) = Refuses ts (equal_substitution_checks (thesis_in ts x) (thesis_in ts y)) r

-- the equation that is formed of a thesis over a table with the two sides
abbrev pub equated_in : List Expression → Thesis → ℕ → ℕ → Statement
equated_in ts x s t = equated_at (thesis_in ts x) (tree ts s) (tree ts t)

-- each expression of that equation is small
abbrev pub IsEquatedSmall : List Expression → Thesis → ℕ → ℕ → Type 0
IsEquatedSmall ts x s t = AllSmall (expressions (equated_in ts x s t))
