-- The statement that a thesis or a boundary over a table is.
use Rattle.std.specs.Prelude.{ℕ, zero, ◌<◌, List, [], ◌∷◌, length, Option, Some, None, option_map, unwrap_or}
use Rattle.ft_theory.specs.Expressions.{Expression, bound}
use Rattle.ft_theory.specs.Statements.{Claim, is_type, has_type, equal_types, equal_terms, type_goal, term_goal, type_equation_goal, term_equation_goal, Statement, plain, abstracted, ClosedStatement}
use Rattle.ft_syntax.specs.Table.{tree, AllBelow}
use Rattle.ft_syntax.specs.declared.syntax.Arg.{Arg}
use Rattle.ft_judge.specs.declared.judgement.Form.{Form}
use Rattle.ft_judge.specs.declared.judgement.Form.TheVariants.{Ty, Tm, EqTy, EqTm}
use Rattle.ft_judge.specs.declared.judgement.Goal.{Goal}
use Rattle.ft_judge.specs.declared.judgement.Goal.TheVariants as goal
use Rattle.ft_judge.specs.declared.judgement.Thesis.{Thesis}
use Rattle.ft_judge.specs.declared.judgement.Boundary.{Boundary}

abbrev pub claim_in : List Expression → Form → Claim
claim_in ts (Ty A) = is_type (tree ts A)
claim_in ts (Tm t A) = has_type (tree ts t) (tree ts A)
claim_in ts (EqTy A B) = equal_types (tree ts A) (tree ts B)
claim_in ts (EqTm s t A) = equal_terms (tree ts s) (tree ts t) (tree ts A)

abbrev pub goal_in : List Expression → Goal → Claim
goal_in ts goal.Ty = type_goal
goal_in ts (goal.Tm A) = term_goal (tree ts A)
goal_in ts (goal.EqTy A B) = type_equation_goal (tree ts A) (tree ts B)
goal_in ts (goal.EqTm s t A) = term_equation_goal (tree ts s) (tree ts t) (tree ts A)

-- the statement under domains that are trees of the table
abbrev pub under : List Expression → List ℕ → Statement → Statement
under ts [] x = x
under ts (A ∷ As) x = abstracted (tree ts A) (under ts As x)

-- a thesis as a statement
abbrev pub thesis_in : List Expression → Thesis → Statement
thesis_in ts x = under ts x.domains (plain (claim_in ts x.form))

-- a boundary as a statement
abbrev pub boundary_in : List Expression → Boundary → Statement
boundary_in ts b = under ts b.domains (plain (goal_in ts b.goal))

-- each expression of the form is among the first n trees
abbrev pub FormBelow : ℕ → Form → Type 0
FormBelow n (Ty A) = A < n
FormBelow n (Tm t A) = (t < n) × (A < n)
FormBelow n (EqTy A B) = (A < n) × (B < n)
FormBelow n (EqTm s t A) = (s < n) × (t < n) × (A < n)

abbrev pub GoalBelow : ℕ → Goal → Type 0
GoalBelow n goal.Ty = Unit {0}
GoalBelow n (goal.Tm A) = A < n
GoalBelow n (goal.EqTy A B) = (A < n) × (B < n)
GoalBelow n (goal.EqTm s t A) = (s < n) × (t < n) × (A < n)

-- each expression of the thesis is among the first n trees
abbrev pub ThesisBelow : ℕ → Thesis → Type 0
ThesisBelow n x = AllBelow n x.domains × FormBelow n x.form

abbrev pub BoundaryBelow : ℕ → Boundary → Type 0
BoundaryBelow n b = AllBelow n b.domains × GoalBelow n b.goal

-- Closed: the i-th domain, from 0, has only loose bound variables below i, and the form only such below the number of domains.
abbrev pub IsClosedThesis : List Expression → Thesis → Type 0
IsClosedThesis ts x = ClosedStatement zero (thesis_in ts x)

abbrev pub IsClosedBoundary : List Expression → Boundary → Type 0
IsClosedBoundary ts b = ClosedStatement zero (boundary_in ts b)

-- the head of a form: its type or its term. An equation has none.
abbrev pub head_of_form : Form → Option ℕ
head_of_form (Ty A) = Some A
head_of_form (Tm t A) = Some t
head_of_form (EqTy A B) = None
head_of_form (EqTm s t A) = None

-- the head of a thesis, under as many binders as it has domains
abbrev pub head_of_thesis : Thesis → Arg
head_of_thesis x = record { binders = length x.domains; body = head_of_form x.form }

-- the goal of a form: the form without its head
abbrev pub goal_of_form : Form → Goal
goal_of_form (Ty A) = goal.Ty
goal_of_form (Tm t A) = goal.Tm A
goal_of_form (EqTy A B) = goal.EqTy A B
goal_of_form (EqTm s t A) = goal.EqTm s t A

-- the boundary of a thesis
abbrev pub boundary_of_thesis : Thesis → Boundary
boundary_of_thesis x = record { domains = x.domains; goal = goal_of_form x.form }

-- a head is of the goal's kind: an expression for a type or a term, a dummy for an equation
abbrev pub IsHeadFor : Goal → Option ℕ → Type 0
IsHeadFor goal.Ty (Some h) = Unit {0}
IsHeadFor goal.Ty None = ⊥
IsHeadFor (goal.Tm A) (Some h) = Unit {0}
IsHeadFor (goal.Tm A) None = ⊥
IsHeadFor (goal.EqTy A B) (Some h) = ⊥
IsHeadFor (goal.EqTy A B) None = Unit {0}
IsHeadFor (goal.EqTm s t A) (Some h) = ⊥
IsHeadFor (goal.EqTm s t A) None = Unit {0}

-- the goal filled with a head, which an equation has not
abbrev pub filled_form : Goal → Option ℕ → Form
filled_form goal.Ty h = Ty (unwrap_or h 0)
filled_form (goal.Tm A) h = Tm (unwrap_or h 0) A
filled_form (goal.EqTy A B) h = EqTy A B
filled_form (goal.EqTm s t A) h = EqTm s t A

-- the boundary filled with a head
abbrev pub filled : Boundary → Option ℕ → Thesis
filled b h = record { domains = b.domains; form = filled_form b.goal h }

-- the head's expression; where there is none, one that a filling does not look at
abbrev pub head_in : List Expression → Option ℕ → Expression
head_in ts h = unwrap_or (option_map (tree ts) h) (bound 0)

-- the head of a claim: its type or its term
abbrev pub head_of_claim : Claim → Option Expression
head_of_claim (is_type A) = Some A
head_of_claim (has_type t A) = Some t
head_of_claim (equal_types A B) = None
head_of_claim (equal_terms s t A) = None
head_of_claim type_goal = None
head_of_claim (term_goal A) = None
head_of_claim (type_equation_goal A B) = None
head_of_claim (term_equation_goal s t A) = None

-- the head of a statement, under its domains
abbrev pub head_of_statement : Statement → Option Expression
head_of_statement (plain c) = head_of_claim c
head_of_statement (abstracted A x) = head_of_statement x
