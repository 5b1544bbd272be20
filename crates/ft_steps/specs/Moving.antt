-- Statements of which each expression is moved: opened, or closed.
use Rattle.std.specs.Prelude.{ℕ, zero, suc, ◌<◌, ◌&&◌, Bool, true, false, Option, Some, None, List, [], ◌∷◌}
use Rattle.ft_theory.specs.Expressions.{Expression, open_at, close_at}
use Rattle.ft_theory.specs.Statements.{Claim, Statement, plain, has_type, equal_terms, map_claim, map_statement, boundary_of_claim, equate_goal}
use Rattle.ft_items.specs.Equal.{equal_expressions, head_of_claim}
use Rattle.ft_syntax.specs.Table.{tree}
use Rattle.ft_steps.specs.declared.moving.Move.{Move}
use Rattle.ft_steps.specs.declared.moving.Move.TheVariants.{Open, Close}

-- the expression opened or closed below k domains
abbrev pub moved : List Expression → Move → ℕ → Expression → Expression
moved ts (Open t) k e = open_at k (tree ts t) e
moved ts (Close v) k e = close_at k v e

-- the statement with each expression moved
abbrev pub moved_statement : List Expression → Move → Statement → Statement
moved_statement ts m x = map_statement (moved ts m) zero x

-- what is put is among the first n trees
abbrev pub MoveBelow : ℕ → Move → Type 0
MoveBelow n (Open t) = t < n
MoveBelow n (Close v) = Unit {0}

-- the test that the second domains are the first ones moved, each below those before it and k more
abbrev pub domains_moved : List Expression → Move → ℕ → List ℕ → List ℕ → Bool
domains_moved ts m k [] [] = true
domains_moved ts m k [] (B ∷ Bs) = false
domains_moved ts m k (A ∷ As) [] = false
domains_moved ts m k (A ∷ As) (B ∷ Bs) = equal_expressions (moved ts m k (tree ts A)) (tree ts B) && domains_moved ts m (suc k) As Bs

-- the term and its type, where the statement is a plain term
abbrev pub plain_term : Statement → Option (Expression × Expression)
plain_term (plain (has_type t A)) = Some (t, A)
plain_term x = None

-- two expressions of a table
abbrev pub two_in : List Expression → ℕ × ℕ → Expression × Expression
two_in ts p = (tree ts p.0, tree ts p.1)

-- the sides and the type, where the statement is a plain equation of terms
abbrev pub plain_equation : Statement → Option (Expression × Expression × Expression)
plain_equation (plain (equal_terms s t A)) = Some (s, t, A)
plain_equation x = None

-- three expressions of a table
abbrev pub three_in : List Expression → ℕ × ℕ × ℕ → Expression × Expression × Expression
three_in ts p = (tree ts p.0, tree ts p.1, tree ts p.2)

-- The equation between the head of a claim opened with s and opened with t below k domains, at the claim's goal opened with s.
abbrev pub equated : ℕ → Expression → Expression → Claim → Claim
equated k s t c = equate_goal (map_claim (open_at k s) (boundary_of_claim c)) (open_at k s (head_of_claim c)) (open_at k t (head_of_claim c))
