-- Metavariables at terms as they stand in a table.
use Rattle.std.specs.Prelude.{ℕ, zero, suc, ◌&&◌, Bool, true, false, Option, Some, None, List, [], ◌∷◌, ◌++◌}
use Rattle.ft_theory.specs.Expressions.{Expression, bound}
use Rattle.ft_theory.specs.Statements.{Claim, is_type, has_type, equal_types, equal_terms, type_goal, term_goal, type_equation_goal, term_equation_goal}
use Rattle.ft_items.specs.Equal.{equal_expressions}
use Rattle.ft_syntax.specs.Arguments.{Argument}
use Rattle.ft_syntax.specs.Table.{tree}
use Rattle.ft_placing.specs.Opening.{opened_by, trees_of}

-- the body, where there is one
abbrev pub body_listed : Option Expression → List Expression
body_listed None = []
body_listed (Some e) = e ∷ []

-- the bodies of the arguments that have one
abbrev pub bodies : List Argument → List Expression
bodies [] = []
bodies (p ∷ ps) = body_listed p.1 ++ bodies ps

-- the test that there is a body, which is the bound variable i
abbrev pub is_bound_body : ℕ → Option Expression → Bool
is_bound_body i None = false
is_bound_body i (Some e) = equal_expressions (bound i) e

-- the test that the bodies are the bound variables of n domains, the outermost first
abbrev pub are_bounds : ℕ → List Argument → Bool
are_bounds zero [] = true
are_bounds zero (p ∷ ps) = false
are_bounds (suc n) [] = false
are_bounds (suc n) (p ∷ ps) = is_bound_body n p.1 && are_bounds n ps

-- the test for the claim of a thesis whose head, where it has one, is the expression h
abbrev pub has_head_as : Expression → Claim → Bool
has_head_as h (is_type A) = equal_expressions h A
has_head_as h (has_type t A) = equal_expressions h t
has_head_as h (equal_types A B) = true
has_head_as h (equal_terms s t A) = true
has_head_as h type_goal = false
has_head_as h (term_goal A) = false
has_head_as h (type_equation_goal A B) = false
has_head_as h (term_equation_goal s t A) = false

-- the test that an expression, where one is there, is the type N
abbrev pub is_left : List Expression → Expression → Option ℕ → Bool
is_left ts N None = false
is_left ts N (Some e) = equal_expressions N (tree ts e)

-- the first of these domains with the terms put; where there is none, a dummy
abbrev pub domain_put : List Expression → List ℕ → List ℕ → Expression
domain_put ts es [] = bound zero
domain_put ts es (D ∷ Ds) = opened_by 0 (trees_of ts es) (tree ts D)
