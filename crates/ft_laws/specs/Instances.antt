-- The general laws of instances: some metavariables are given arguments, the others stay, and the maps before and after are
-- two maps of their own. After the instantiation of Haselwarter and Bauer, "Finitary type theories with and without contexts".
use Rattle.std.specs.Prelude.{ℕ, zero, Option, Some, None, ◌≡◌, List}
use Rattle.ft_theory.specs.Expressions.{Expression, bound, free, Arguments, no_arguments, with_body, dummy, act}
use Rattle.ft_theory.specs.Statements.{Statement, act_statement, domain_count, fill, equate, IsObject, IsEquation}
use Rattle.ft_theory.specs.Rules.{look_up, Rule, rule_at, BoundaryAfter, instance_of, FitsPremises}
use Rattle.ft_theory.specs.Steps.{IsVariableFree, Prim}
use Rattle.ft_theory.specs.Derivability.{Finitary}
use Rattle.ft_laws.specs.Syntax.{HasClosedBodies}

-- the statement at an instance
abbrev pub statement_at : (ℕ → ℕ → Option Expression) → Statement → Statement
statement_at i x = act_statement free i x

-- An object metavariable with the boundary b stays, with its boundary at the instance; or it is given an argument that is
-- derivable at its boundary at the instance.
pub data StaysOrGiven (T : List Rule) (N : List (ℕ × Statement)) (H : List (ℕ × Expression)) (i : ℕ → ℕ → Option Expression) (m : ℕ) (b : Statement) : Type 0 where
  stays : i m (domain_count b) ≡ None → look_up N m ≡ Some (statement_at i b) → IsVariableFree (statement_at i b) → StaysOrGiven T N H i m b
  given : (e : Expression) → i m (domain_count b) ≡ Some e → Prim T N H (fill (statement_at i b) e) → StaysOrGiven T N H i m b

-- A metavariable with an equation boundary stays, or the equation at the instance is derivable.
pub data EquationStaysOrHolds (T : List Rule) (N : List (ℕ × Statement)) (H : List (ℕ × Expression)) (i : ℕ → ℕ → Option Expression) (m : ℕ) (b : Statement) : Type 0 where
  stays_equation : look_up N m ≡ Some (statement_at i b) → IsVariableFree (statement_at i b) → EquationStaysOrHolds T N H i m b
  given_equation : Prim T N H (fill (statement_at i b) (bound zero)) → EquationStaysOrHolds T N H i m b

-- IsInstance T M G N H i: over T, the instance i leads from the maps M, G to the maps N, H. Its bodies are closed, each variable
-- has its type at the instance, and each metavariable stays or is given. Nothing is asked where a boundary has free variables,
-- since no derivation uses it.
pub record IsInstance (T : List Rule) (M : List (ℕ × Statement)) (G : List (ℕ × Expression)) (N : List (ℕ × Statement)) (H : List (ℕ × Expression)) (i : ℕ → ℕ → Option Expression) : Type 0 where
  pub closed : HasClosedBodies i
  pub variables : (v : ℕ) (A : Expression) → look_up G v ≡ Some A → look_up H v ≡ Some (act free i A)
  pub objects : (m : ℕ) (b : Statement) → look_up M m ≡ Some b → IsVariableFree b → IsObject b → StaysOrGiven T N H i m b
  pub equations : (m : ℕ) (b : Statement) → look_up M m ≡ Some b → IsVariableFree b → IsEquation b → EquationStaysOrHolds T N H i m b

-- Two instances i and j: an object metavariable with the boundary b stays in both, with the same boundary; or it is given an
-- argument in both, the one in i derivable at the boundary at i, and equal there to the one in j.
pub data StaysOrGivenInBoth (T : List Rule) (N : List (ℕ × Statement)) (H : List (ℕ × Expression)) (i j : ℕ → ℕ → Option Expression) (m : ℕ) (b : Statement) : Type 0 where
  both_stay : i m (domain_count b) ≡ None → j m (domain_count b) ≡ None → look_up N m ≡ Some (statement_at i b) → IsVariableFree (statement_at i b) → statement_at j b ≡ statement_at i b → StaysOrGivenInBoth T N H i j m b
  both_given : (e f : Expression) → i m (domain_count b) ≡ Some e → j m (domain_count b) ≡ Some f → Prim T N H (fill (statement_at i b) e) → Prim T N H (equate (statement_at i b) e f) → StaysOrGivenInBoth T N H i j m b

-- AreEqualInstances T M G N H i j: i leads from M, G to N, H, and j, whose bodies are closed, is equal to it at each object
-- metavariable.
pub record AreEqualInstances (T : List Rule) (M : List (ℕ × Statement)) (G : List (ℕ × Expression)) (N : List (ℕ × Statement)) (H : List (ℕ × Expression)) (i j : ℕ → ℕ → Option Expression) : Type 0 where
  pub left : IsInstance T M G N H i
  pub closed : HasClosedBodies j
  pub objects : (m : ℕ) (b : Statement) → look_up M m ≡ Some b → IsVariableFree b → IsObject b → StaysOrGivenInBoth T N H i j m b

-- the arguments a, and then the arguments c
abbrev pub followed_by : Arguments → Arguments → Arguments
followed_by no_arguments c = c
followed_by (with_body n e a) c = with_body n e (followed_by a c)
followed_by (dummy n a) c = dummy n (followed_by a c)

-- Later arguments change nothing before them. At arguments for a rule that begin with arguments for its premises ps, the boundary
-- after these premises is what it is at the first ones alone.
abbrev pub LawLaterArguments : Type 0
LawLaterArguments = (T : List Rule) → Finitary T → (r : ℕ) (R : Rule) → rule_at T r ≡ Some R
    → (ps : List (ℕ × Statement)) (b : Statement) → BoundaryAfter R ps b
    → (a c : Arguments) → FitsPremises ps a
    → statement_at (instance_of R.premises (followed_by a c)) b ≡ statement_at (instance_of ps a) b

-- What is derivable is derivable at an instance.
abbrev pub LawGeneralInstance : Type 0
LawGeneralInstance = (T : List Rule) → Finitary T → (M : List (ℕ × Statement)) (G : List (ℕ × Expression)) (N : List (ℕ × Statement)) (H : List (ℕ × Expression)) (i : ℕ → ℕ → Option Expression) (x : Statement)
    → IsInstance T M G N H i → Prim T M G x → Prim T N H (statement_at i x)

-- What is derivable is derivable at the right one of two equal instances.
abbrev pub LawRightInstance : Type 0
LawRightInstance = (T : List Rule) → Finitary T → (M : List (ℕ × Statement)) (G : List (ℕ × Expression)) (N : List (ℕ × Statement)) (H : List (ℕ × Expression)) (i j : ℕ → ℕ → Option Expression) (x : Statement)
    → AreEqualInstances T M G N H i j → Prim T M G x → Prim T N H (statement_at j x)

-- The head of a derivable object thesis at one of two equal instances equals its head at the other, at the boundary at the first.
abbrev pub LawGeneralEqualInstances : Type 0
LawGeneralEqualInstances = (T : List Rule) → Finitary T → (M : List (ℕ × Statement)) (G : List (ℕ × Expression)) (N : List (ℕ × Statement)) (H : List (ℕ × Expression)) (i j : ℕ → ℕ → Option Expression) (b : Statement) (h : Expression)
    → AreEqualInstances T M G N H i j → IsObject b → Prim T M G (fill b h) → Prim T N H (equate (statement_at i b) (act free i h) (act free j h))
