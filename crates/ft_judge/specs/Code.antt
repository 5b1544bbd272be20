-- A code of statements, so that a model can have them.
use Rattle.std.specs.Prelude.{◌≡◌, ℕ, zero, suc, List, [], ◌∷◌, refl}
use mathlib.Core.Path.{ap}
use Rattle.std.specs.Coded.{code_by, coded×, coded_ℕ}
use base.Stored.{Coded, coded_list}
use Rattle.ft_theory.specs.Expressions.{Expression}
use Rattle.ft_theory.specs.Statements.{Claim, is_type, has_type, equal_types, equal_terms, type_goal, term_goal, type_equation_goal, term_equation_goal, Statement, plain, abstracted}
use Rattle.ft_syntax.specs.Code.{coded_expression}

-- a claim as the number of its form with its expressions
abbrev pub claim_parts : Claim → ℕ × List Expression
claim_parts (is_type A) = (0, A ∷ [])
claim_parts (has_type t A) = (1, t ∷ A ∷ [])
claim_parts (equal_types A B) = (2, A ∷ B ∷ [])
claim_parts (equal_terms s t A) = (3, s ∷ t ∷ A ∷ [])
claim_parts type_goal = (4, [])
claim_parts (term_goal A) = (5, A ∷ [])
claim_parts (type_equation_goal A B) = (6, A ∷ B ∷ [])
claim_parts (term_equation_goal s t A) = (7, s ∷ t ∷ A ∷ [])

-- the claim with these expressions, by the number of its form
abbrev pub claim_one : ℕ → Expression → Claim
claim_one zero A = is_type A
claim_one (suc n) A = term_goal A

abbrev pub claim_two : ℕ → Expression → Expression → Claim
claim_two (suc zero) t A = has_type t A
claim_two (suc (suc zero)) A B = equal_types A B
claim_two n A B = type_equation_goal A B

abbrev pub claim_three : ℕ → Expression → Expression → Expression → Claim
claim_three (suc (suc (suc zero))) s t A = equal_terms s t A
claim_three n s t A = term_equation_goal s t A

abbrev pub claim_of_parts : ℕ × List Expression → Claim
claim_of_parts (n, []) = type_goal
claim_of_parts (n, A ∷ []) = claim_one n A
claim_of_parts (n, A ∷ B ∷ []) = claim_two n A B
claim_of_parts (n, A ∷ B ∷ C ∷ more) = claim_three n A B C

pub claim_again : (c : Claim) → claim_of_parts (claim_parts c) ≡ c
claim_again (is_type A) = refl
claim_again (has_type t A) = refl
claim_again (equal_types A B) = refl
claim_again (equal_terms s t A) = refl
claim_again type_goal = refl
claim_again (term_goal A) = refl
claim_again (type_equation_goal A B) = refl
claim_again (term_equation_goal s t A) = refl

abbrev pub coded_claim : Coded Claim
coded_claim = code_by (ℕ × List Expression) (coded× coded_ℕ (coded_list coded_expression)) claim_parts claim_of_parts claim_again

-- a statement as its domains with its claim
abbrev pub domains_of : Statement → List Expression
domains_of (plain c) = []
domains_of (abstracted A x) = A ∷ domains_of x

abbrev pub claim_of : Statement → Claim
claim_of (plain c) = c
claim_of (abstracted A x) = claim_of x

abbrev pub statement_of : List Expression → Claim → Statement
statement_of [] c = plain c
statement_of (A ∷ As) c = abstracted A (statement_of As c)

pub statement_again : (x : Statement) → statement_of (domains_of x) (claim_of x) ≡ x
statement_again (plain c) = refl
statement_again (abstracted A x) = ap (abstracted A) (statement_again x)

abbrev pub coded_statement : Coded Statement
coded_statement = code_by (List Expression × Claim) (coded× (coded_list coded_expression) coded_claim) (λ x. (domains_of x, claim_of x)) (λ p. statement_of p.0 p.1) statement_again
