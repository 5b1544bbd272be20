-- What the rows of the table of steps conclude whose conclusion is made of parts of what the step names.
use Rattle.std.specs.Prelude.{Option, Some}
use Rattle.ft_theory.specs.Statements.{Statement, Claim, boundary_of, boundary_of_claim, equate_goal}
use Rattle.ft_items.specs.Equal.{has_head_claim, head_of_claim}
use Rattle.ft_items.specs.Rows.{when, reflexivity, symmetry, transitivity, conversion, equation_conversion, left_side, right_side, type_part, under_domains, first_domain, term_boundary, type_equation_boundary}
use Rattle.ft_steps.specs.declared.rows.FromOne.{FromOne}
use Rattle.ft_steps.specs.declared.rows.FromOne.TheVariants.{Refl, Sym, Left, Right, Typeof, Domain, Boundary, Bterm}
use Rattle.ft_steps.specs.declared.rows.FromTwo.{FromTwo}
use Rattle.ft_steps.specs.declared.rows.FromTwo.TheVariants.{Trans, Conv, Conveq, Widen, Beqty}

-- what a step concludes from one statement
abbrev pub from_one : FromOne → Statement → Option Statement
from_one Refl x = reflexivity x
from_one Sym x = symmetry x
from_one Left x = under_domains left_side x
from_one Right x = under_domains right_side x
from_one Typeof x = under_domains type_part x
from_one Domain x = first_domain x
from_one Boundary x = Some (boundary_of x)
from_one Bterm x = term_boundary x

-- what a step concludes from two statements
abbrev pub from_two : FromTwo → Statement → Statement → Option Statement
from_two Trans x y = transitivity x y
from_two Conv x y = conversion x y
from_two Conveq x y = equation_conversion x y
from_two Widen x y = Some x
from_two Beqty x y = type_equation_boundary x y

-- a type or term equal to itself, as a claim
abbrev pub equal_to_itself : Claim → Option Claim
equal_to_itself c = when (has_head_claim c) (equate_goal (boundary_of_claim c) (head_of_claim c) (head_of_claim c))
