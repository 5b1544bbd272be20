-- Why a call of the nucleus has no result: the refusals, and the checks that give them. A call makes its checks in order; the
-- first that fails gives the refusal.
use Rattle.std.specs.Prelude.{ℕ, Bool, false, cond, Option, Some, None, List, [], ◌∷◌, nat_eq}
use Rattle.ft_theory.specs.Expressions.{Expression}
use Rattle.ft_theory.specs.Statements.{Claim, is_type, has_type, equal_types, equal_terms, type_goal, term_goal, type_equation_goal, term_equation_goal, Statement, plain, abstracted}
use Rattle.ft_theory.specs.Small.{IsSmall, is_small}

-- two expressions that differ, under so many domains: what was found, and what it was to be
pub record Differ : Type 0 where
  pub found : Expression
  pub wanted : Expression
  pub under : ℕ

-- The refusals of the nucleus.
pub data Refusal : Type 0 where
  -- a thesis or boundary has not the form that the call needs
  WrongForm : Refusal
  -- there is no first domain
  NotAbstracted : Refusal
  -- a domain or a type is another
  TypeDiffers : Differ → Refusal
  -- a side of an equation is another
  SidesDiffer : Differ → Refusal
  -- the annotation of this variable rests on the one that is to be bound
  DependentVariable : ℕ → Refusal
  -- a metavariable's boundary rests on this variable
  OpenBoundary : ℕ → Refusal
  -- so many were given, so many wanted
  ArgumentCount : ℕ → ℕ → Refusal
  -- an expression that is formed is not small
  TooBig : Refusal
  -- a variable has no arguments
  NotApplication : Refusal

-- A check asks that a test holds, with the refusal if it doesn't; or it forms an expression, which is to be small.
pub data Check : Type 0 where
  asks : Bool → Refusal → Check
  forms : Expression → Check

-- the test of a check
abbrev pub holds : Check → Bool
holds (asks b r) = b
holds (forms e) = is_small e

-- the refusal, where the test fails
abbrev pub refusal_of : Check → Refusal
refusal_of (asks b r) = r
refusal_of (forms e) = TooBig

-- the refusal of the first check whose test fails; None where all hold
abbrev pub first_refusal : List Check → Option Refusal
first_refusal [] = None
first_refusal (c ∷ cs) = cond (holds c) (first_refusal cs) (Some (refusal_of c))

-- the expressions that the checks form
abbrev pub formed : List Check → List Expression
formed [] = []
formed (asks b r ∷ cs) = formed cs
formed (forms e ∷ cs) = e ∷ formed cs

-- each of the expressions is small
abbrev pub AllSmall : List Expression → Type 0
AllSmall [] = Unit {0}
AllSmall (e ∷ es) = IsSmall e × AllSmall es

-- Checks of several expressions, of a count, and of what is named.

-- the expressions of a claim or goal
abbrev pub claim_expressions : Claim → List Expression
claim_expressions (is_type A) = A ∷ []
claim_expressions (has_type t A) = t ∷ A ∷ []
claim_expressions (equal_types A B) = A ∷ B ∷ []
claim_expressions (equal_terms s t A) = s ∷ t ∷ A ∷ []
claim_expressions type_goal = []
claim_expressions (term_goal A) = A ∷ []
claim_expressions (type_equation_goal A B) = A ∷ B ∷ []
claim_expressions (term_equation_goal s t A) = s ∷ t ∷ A ∷ []

-- the expressions of a statement, its domains first
abbrev pub expressions : Statement → List Expression
expressions (plain c) = claim_expressions c
expressions (abstracted A x) = A ∷ expressions x

-- these expressions are formed
abbrev pub forms_all : List Expression → List Check
forms_all [] = []
forms_all (e ∷ es) = forms e ∷ forms_all es

-- the expressions of the statement are formed
abbrev pub forms_statement : Statement → List Check
forms_statement x = forms_all (expressions x)

-- the expressions of the statement are formed, where there is one
abbrev pub forms_result : Option Statement → List Check
forms_result None = []
forms_result (Some x) = forms_statement x

-- as many are given as are wanted
abbrev pub count_check : ℕ → ℕ → Check
count_check given wanted = asks (nat_eq given wanted) (ArgumentCount given wanted)

-- there is none; a first one is refused
abbrev pub none_check : {A : Type 0} → (A → Refusal) → Option A → List Check
none_check f None = []
none_check f (Some a) = asks false (f a) ∷ []
