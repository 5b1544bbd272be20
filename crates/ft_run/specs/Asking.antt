-- What the premises and the conclusion of a rule ask for, in a session.
use Rattle.std.specs.Prelude.{ℕ, ◌≡◌, cond, List, Option, Some, None, option_map}
use Rattle.ft_theory.specs.Statements.{Claim, is_type, type_goal, term_goal}
use Rattle.ft_items.specs.Good.{is_new}
use Rattle.ft_judge.specs.Meaning.{goal_in}
use Rattle.ft_judge.specs.declared.judgement.Form.{Form}
use Rattle.ft_judge.specs.declared.judgement.Form.TheVariants as form
use Rattle.ft_judge.specs.declared.judgement.Goal.{Goal}
use Rattle.ft_judge.specs.declared.judgement.Goal.TheVariants as goal
use Rattle.ft_kernel.specs.State.{State}
use Rattle.ft_applications_meaning.specs.Building.{Declaration, type_of, goal_of_premise, name_of_premise}
use Rattle.ft_applications_meaning.specs.declared.syntax.Application.{Application}
use Rattle.ft_applications_meaning.specs.declared.syntax.Premise.{Premise}
use Rattle.ft_run.specs.Session.{IsSimpleGoal, FitsGoal, HasEntry}

-- the type of a term that is asked for has an entry; a type has none
abbrev pub HasType : State → Claim → Option ℕ → Type 0
HasType s type_goal None = Unit {0}
HasType s (term_goal A) (Some j) = HasEntry s j (is_type A)
HasType s g o = ⊥

-- what is asked for fits the table, and its type has its entry
abbrev pub IsGoalAsked : State → Goal → Option ℕ → Type 0
IsGoalAsked s g o = FitsGoal s.trees g × HasType s (goal_in s.trees g) o

-- the goal of a term of the type that the form claims
abbrev pub IsTypeOf : Form → Goal → Type 0
IsTypeOf f g = (A : ℕ) × (f ≡ form.Ty A) × (g ≡ goal.Tm A)

-- an entry has a goal of this language, which rests on nothing
abbrev pub HasGoal : State → ℕ → Type 0
HasGoal s b = (g : Claim) × IsSimpleGoal g × HasEntry s b g

-- a term of the type that an expression of a rule is
abbrev pub goal_of_type : List Declaration → List (List ℕ) → Application → Option Claim
goal_of_type ds taken a = option_map term_goal (type_of ds taken a)

-- what a premise asks for, where its name is none of the taken ones
abbrev pub goal_of_new : List Declaration → List (List ℕ) → Premise → Option Claim
goal_of_new ds taken p = cond (is_new taken (name_of_premise p)) (goal_of_premise ds taken p) None
