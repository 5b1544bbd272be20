-- Equations that start at the heads of theses, one by one.
use Rattle.std.specs.Prelude.{ℕ, Bool, true, false, cond, Option, Some, None, List, [], ◌∷◌, drop}
use Rattle.ft_theory.specs.Expressions.{Expression, instantiate, symbol}
use Rattle.ft_theory.specs.Statements.{Claim, Statement, domain_count, equate_goal, map_claim}
use Rattle.ft_theory.specs.Rules.{Rule}
use Rattle.ft_items.specs.Equal.{equal_expressions, has_head, heads, right_head, right_heads, starts}
use Rattle.ft_items.specs.Rows.{premise_conversion, premise_conversion_back}
use Rattle.ft_syntax.specs.Arguments.{Argument}
use Rattle.ft_syntax.specs.Instances.{instance_in}
use Rattle.ft_syntax.specs.Table.{argument_in, arguments_in}
use Rattle.ft_judge.specs.Meaning.{goal_in}
use Rattle.ft_check.specs.Arguing.{IsPut}
use Rattle.ft_check.specs.declared.applied.RuleAt.{RuleAt}
use Rattle.ft_check.specs.declared.conversions.Way.{Way}
use Rattle.ft_check.specs.declared.conversions.Way.TheVariants.{Forth, Back}
use Rattle.ft_check.specs.declared.rights.Next.{Next}
use Rattle.ft_check.specs.declared.sides.Sides.{Sides}

-- the right side of the first equation as an argument, where that starts at the thesis, and the equations after it
abbrev pub taken : Statement → List Statement → Option (Argument × List Statement)
taken x [] = None
taken x (e ∷ es) = cond (starts x e) (Some ((domain_count x, Some (right_head e)), es)) None

-- the same for a thesis with a head; for another a dummy, which takes no equation
abbrev pub right_and_rest : Statement → List Statement → Option (Argument × List Statement)
right_and_rest x es = cond (has_head x) (taken x es) (Some ((domain_count x, None), es))

-- what is read of one thesis, where es are the equations: the argument, and the equations that are left
abbrev pub next_in : List Expression → List Statement → Next → Argument × List Statement
next_in ts es x = (argument_in ts x.argument, drop x.used es)

-- on the left are the heads of the theses, on the right the right sides of the equations that start at them
pub record AreSides (s : Sides) (ps : List (ℕ × Statement)) (xs es : List Statement) : Type 0 where
  pub left : IsPut s.left ps (heads xs)
  pub right : IsPut s.right ps (right_heads xs es)

-- the sides in the order of the way: from the first to the second
abbrev pub directed : Way → Sides → Sides
directed Forth s = s
directed Back s = record { left = s.right; right = s.left }

-- an argument for the next premise moved that way
abbrev pub converted : Way → Rule → List Statement → List Statement → Statement → Option Statement
converted Forth R xs es y = premise_conversion R xs es y
converted Back R xs es y = premise_conversion_back R xs es y

-- the test that the second has a head where the first has one, and that it is the same
abbrev pub same_head : Option Expression → Option Expression → Bool
same_head None h = true
same_head (Some e) None = false
same_head (Some e) (Some h) = equal_expressions e h

-- the equation between the rule's symbol at the arguments of each side, at the rule's goal at those of the left one
abbrev pub equated : List Expression → Sides → RuleAt → Claim
equated ts s r =
    equate_goal (map_claim (instantiate (instance_in s.left.terms s.left.instance.pairs)) (goal_in ts r.goal))
    (symbol r.symbol (arguments_in s.left.terms s.left.arguments.items))
    (symbol r.symbol (arguments_in s.right.terms s.right.arguments.items))
