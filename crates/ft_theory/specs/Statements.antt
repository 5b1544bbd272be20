-- Statements: theses (judgements) and boundaries, under domains.
-- After the judgements and boundaries of Haselwarter and Bauer, "Finitary type theories with and without contexts".
use Rattle.std.specs.Prelude.{ℕ, zero, suc, Option}
use Rattle.ft_theory.specs.Expressions.{Expression, bound, Terms, no_terms, also, act, ClosedAt, MentionsOnly, open_at, close_at}

-- What a statement says below its domains. A thesis claims `A type`, `t : A`, `A == B` or `s == t : A`. A boundary, which is
-- a thesis without its head, has a goal: `_ type`, `_ : A`, or one of the two equations.
pub data Claim : Type 0 where
  is_type : Expression → Claim
  has_type : Expression → Expression → Claim
  equal_types : Expression → Expression → Claim
  equal_terms : Expression → Expression → Expression → Claim
  type_goal : Claim
  term_goal : Expression → Claim
  type_equation_goal : Expression → Expression → Claim
  term_equation_goal : Expression → Expression → Expression → Claim

-- A statement is a claim or goal under domains: `abstracted A x` is `{x : A} ..`, whose variable is bound in the rest.
pub data Statement : Type 0 where
  plain : Claim → Statement
  abstracted : Expression → Statement → Statement

-- the claim with f done to its expressions
abbrev pub map_claim : (Expression → Expression) → Claim → Claim
map_claim f (is_type A) = is_type (f A)
map_claim f (has_type t A) = has_type (f t) (f A)
map_claim f (equal_types A B) = equal_types (f A) (f B)
map_claim f (equal_terms s t A) = equal_terms (f s) (f t) (f A)
map_claim f type_goal = type_goal
map_claim f (term_goal A) = term_goal (f A)
map_claim f (type_equation_goal A B) = type_equation_goal (f A) (f B)
map_claim f (term_equation_goal s t A) = term_equation_goal (f s) (f t) (f A)

-- the statement with f k done to each expression that has k domains around it, counted on from k
abbrev pub map_statement : (ℕ → Expression → Expression) → ℕ → Statement → Statement
map_statement f k (plain c) = plain (map_claim (f k) c)
map_statement f k (abstracted A x) = abstracted (f k A) (map_statement f (suc k) x)

-- each expression of the claim is as P says
abbrev pub AllOfClaim : (Expression → Type 0) → Claim → Type 0
AllOfClaim P (is_type A) = P A
AllOfClaim P (has_type t A) = P t × P A
AllOfClaim P (equal_types A B) = P A × P B
AllOfClaim P (equal_terms s t A) = P s × P t × P A
AllOfClaim P type_goal = Unit {0}
AllOfClaim P (term_goal A) = P A
AllOfClaim P (type_equation_goal A B) = P A × P B
AllOfClaim P (term_equation_goal s t A) = P s × P t × P A

-- each expression with k domains around it is as P k says
abbrev pub AllOfStatement : (ℕ → Expression → Type 0) → ℕ → Statement → Type 0
AllOfStatement P k (plain c) = AllOfClaim (P k) c
AllOfStatement P k (abstracted A x) = P k A × AllOfStatement P (suc k) x

-- closed, but for bound variables below k
abbrev pub ClosedStatement : ℕ → Statement → Type 0
ClosedStatement k x = AllOfStatement ClosedAt k x

-- each free variable of the statement is as f says, and each metavariable, with its number of terms, as d says
abbrev pub StatementMentionsOnly : (ℕ → Type 0) → (ℕ → ℕ → Type 0) → Statement → Type 0
StatementMentionsOnly f d x = AllOfStatement (λ k. MentionsOnly f d) zero x

-- the statement with g put for its free variables and i for its metavariables
abbrev pub act_statement : (ℕ → Expression) → (ℕ → ℕ → Option Expression) → Statement → Statement
act_statement g i x = map_statement (λ k. act g i) zero x

-- the closed term t for the variable of the domain that stood before the k domains that stay around
abbrev pub open_statement : ℕ → Expression → Statement → Statement
open_statement k t x = map_statement (λ l. open_at l t) k x

-- the free variable v bound, as the variable of a new first domain
abbrev pub close_statement : ℕ → Statement → Statement
close_statement v x = map_statement (λ l. close_at l v) zero x

-- the statement without its first domain, with t for that domain's variable
abbrev pub opened : Expression → Statement → Statement
opened t (plain c) = plain c
opened t (abstracted A x) = open_statement zero t x

-- the type of the first domain (a dummy, where there is none)
abbrev pub domain : Statement → Expression
domain (plain c) = bound zero
domain (abstracted A x) = A

-- how many domains there are
abbrev pub domain_count : Statement → ℕ
domain_count (plain c) = zero
domain_count (abstracted A x) = suc (domain_count x)

-- the statement with terms for the variables of its first domains, in order; these domains are gone
abbrev pub at : Statement → Terms → Statement
at x no_terms = x
at x (also t a) = at (opened t x) a

-- The goal filled with a head: `_ type` with A is `A type`, `_ : A` with t is `t : A`, and an equation has no head and becomes its
-- claim. A claim has no place for a head and stays as it is.
abbrev pub fill_goal : Claim → Expression → Claim
fill_goal type_goal h = is_type h
fill_goal (term_goal A) h = has_type h A
fill_goal (type_equation_goal A B) h = equal_types A B
fill_goal (term_equation_goal s t A) h = equal_terms s t A
fill_goal (is_type A) h = is_type A
fill_goal (has_type t A) h = has_type t A
fill_goal (equal_types A B) h = equal_types A B
fill_goal (equal_terms s t A) h = equal_terms s t A

-- the boundary filled with a head, which stands under the boundary's domains: a thesis
abbrev pub fill : Statement → Expression → Statement
fill (plain c) h = plain (fill_goal c h)
fill (abstracted A x) h = abstracted A (fill x h)

-- the equation between two heads of an object goal, at its type where it has one. What is no object goal stays as it is.
abbrev pub equate_goal : Claim → Expression → Expression → Claim
equate_goal type_goal h k = equal_types h k
equate_goal (term_goal A) h k = equal_terms h k A
equate_goal (type_equation_goal A B) h k = type_equation_goal A B
equate_goal (term_equation_goal s t A) h k = term_equation_goal s t A
equate_goal (is_type A) h k = is_type A
equate_goal (has_type t A) h k = has_type t A
equate_goal (equal_types A B) h k = equal_types A B
equate_goal (equal_terms s t A) h k = equal_terms s t A

-- the equation between two heads of an object boundary, under its domains
abbrev pub equate : Statement → Expression → Expression → Statement
equate (plain c) h k = plain (equate_goal c h k)
equate (abstracted A x) h k = abstracted A (equate x h k)

-- the goal of a type or of a term
abbrev pub IsObjectGoal : Claim → Type 0
IsObjectGoal (is_type A) = ⊥
IsObjectGoal (has_type t A) = ⊥
IsObjectGoal (equal_types A B) = ⊥
IsObjectGoal (equal_terms s t A) = ⊥
IsObjectGoal type_goal = Unit {0}
IsObjectGoal (term_goal A) = Unit {0}
IsObjectGoal (type_equation_goal A B) = ⊥
IsObjectGoal (term_equation_goal s t A) = ⊥

-- the goal of an equation
abbrev pub IsEquationGoal : Claim → Type 0
IsEquationGoal (is_type A) = ⊥
IsEquationGoal (has_type t A) = ⊥
IsEquationGoal (equal_types A B) = ⊥
IsEquationGoal (equal_terms s t A) = ⊥
IsEquationGoal type_goal = ⊥
IsEquationGoal (term_goal A) = ⊥
IsEquationGoal (type_equation_goal A B) = Unit {0}
IsEquationGoal (term_equation_goal s t A) = Unit {0}

-- the boundary of a type or of a term
abbrev pub IsObject : Statement → Type 0
IsObject (plain c) = IsObjectGoal c
IsObject (abstracted A x) = IsObject x

-- the boundary of an equation
abbrev pub IsEquation : Statement → Type 0
IsEquation (plain c) = IsEquationGoal c
IsEquation (abstracted A x) = IsEquation x

-- the goal that a claim fills; a goal is its own
abbrev pub boundary_of_claim : Claim → Claim
boundary_of_claim (is_type A) = type_goal
boundary_of_claim (has_type t A) = term_goal A
boundary_of_claim (equal_types A B) = type_equation_goal A B
boundary_of_claim (equal_terms s t A) = term_equation_goal s t A
boundary_of_claim type_goal = type_goal
boundary_of_claim (term_goal A) = term_goal A
boundary_of_claim (type_equation_goal A B) = type_equation_goal A B
boundary_of_claim (term_equation_goal s t A) = term_equation_goal s t A

-- the boundary of a thesis; a boundary is its own
abbrev pub boundary_of : Statement → Statement
boundary_of (plain c) = plain (boundary_of_claim c)
boundary_of (abstracted A x) = abstracted A (boundary_of x)
