-- Equations for theses with a head, one after the other.
use Rattle.std.specs.Prelude.{ℕ, cond, Option, Some, None, List, [], ◌∷◌, drop}
use Rattle.ft_theory.specs.Statements.{Statement, domain_count}
use Rattle.ft_items.specs.Item.{Item}
use Rattle.ft_items.specs.Equal.{has_head, right_head}
use Rattle.ft_reference.specs.Refusals.{Check}
use Rattle.ft_reference.specs.Compare.{start_checks}
use Rattle.ft_syntax.specs.Arguments.{Argument}
use Rattle.ft_judge.specs.declared.judgement.Form.{Form}
use Rattle.ft_judge.specs.declared.judgement.Form.TheVariants.{Ty, Tm, EqTy, EqTm}
use Rattle.ft_judge.specs.declared.judgement.Goal.{Goal}
use Rattle.ft_judge.specs.declared.judgement.Goal.TheVariants as goal
use Rattle.ft_apply.specs.Named.{statements_of}

-- of a type or term and an equation for it: the goal of the equation from the one to the right side, and this side
abbrev pub start_of : Form → Form → Option (Goal × ℕ)
start_of (Ty A) (EqTy B C) = Some (goal.EqTy A C, C)
start_of (Tm t A) (EqTm s u B) = Some (goal.EqTm t u A, u)
start_of f g = None

-- the statements of numbers from a place on
abbrev pub statements_from : List Item → ℕ → List ℕ → List Statement
statements_from items n js = statements_of items (drop n js)

-- what is checked of the first equation, which is for the thesis where this has a head
abbrev pub next_checks : Statement → List Statement → List Check
next_checks x [] = []
next_checks x (e ∷ es) = cond (has_head x) (start_checks x e) []

-- the argument at the right sides in the place of the thesis
abbrev pub next_right : Statement → List Statement → Argument
next_right x [] = (domain_count x, None)
next_right x (e ∷ es) = (domain_count x, cond (has_head x) (Some (right_head e)) None)

-- the equations for the theses after it
abbrev pub later_equations : Statement → List Statement → List Statement
later_equations x [] = []
later_equations x (e ∷ es) = cond (has_head x) es (e ∷ es)
