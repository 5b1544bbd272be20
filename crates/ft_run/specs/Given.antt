-- What is done with the claims that are given as arguments.
use Rattle.std.specs.Prelude.{◌&&◌, Bool, true, false, List, [], ◌∷◌}
use Rattle.ft_theory.specs.Expressions.{Expression}
use Rattle.ft_items.specs.Equal.{fits_goal}
use Rattle.ft_syntax.specs.declared.syntax.Arg.{Arg}
use Rattle.ft_judge.specs.Meaning.{claim_in, goal_in, head_of_form}
use Rattle.ft_judge.specs.declared.judgement.Form.{Form}
use Rattle.ft_judge.specs.declared.judgement.Goal.{Goal}
use Rattle.ft_run.specs.declared.session.Claimed.{Claimed}

-- the head of a form as an argument without binders; a dummy for an equation
abbrev pub argument_of : Form → Arg
argument_of f = record { binders = 0; body = head_of_form f }

-- the form fits the goal
abbrev pub fits_one : List Expression → Goal → Form → Bool
fits_one ts g f = fits_goal (claim_in ts f) (goal_in ts g)

-- one claim for each goal, which it fits
abbrev pub fits_goals : List Expression → List Goal → List Claimed → Bool
fits_goals ts [] [] = true
fits_goals ts [] (x ∷ xs) = false
fits_goals ts (g ∷ gs) [] = false
fits_goals ts (g ∷ gs) (x ∷ xs) = fits_one ts g x.form && fits_goals ts gs xs
