-- The depth and the size of a list of arguments.
use Rattle.std.specs.Prelude.{ℕ, ◌+◌, ◌^◌, ◌<◌, ◌≤◌, max, Option, Some, None, List, [], ◌∷◌}
use Rattle.ft_theory.specs.Expressions.{Expression}
use Rattle.ft_theory.specs.Small.{depth, size, NumbersFit, IsSmall}
use Rattle.ft_syntax.specs.Arguments.{Argument}

-- the greatest depth of a body
abbrev pub greatest_depth : List Argument → ℕ
greatest_depth [] = 0
greatest_depth ((n, Some e) ∷ ps) = max (depth e) (greatest_depth ps)
greatest_depth ((n, None) ∷ ps) = greatest_depth ps

-- the sum of the bodies' sizes
abbrev pub total_size : List Argument → ℕ
total_size [] = 0
total_size ((n, Some e) ∷ ps) = size e + total_size ps
total_size ((n, None) ∷ ps) = total_size ps

abbrev pub AllNumbersFit : List Argument → Type 0
AllNumbersFit [] = Unit {0}
AllNumbersFit ((n, Some e) ∷ ps) = (n < 2 ^ 32) × NumbersFit e × AllNumbersFit ps
AllNumbersFit ((n, None) ∷ ps) = (n < 2 ^ 32) × AllNumbersFit ps

-- small enough to be the arguments of a small expression
pub record AreSmall (ps : List Argument) : Type 0 where
  pub low : greatest_depth ps ≤ 999
  pub short : total_size ps ≤ 65535
  pub numbers : AllNumbersFit ps

-- a body, where there is one, is small
abbrev pub IsSmallBody : Option Expression → Type 0
IsSmallBody None = Unit {0}
IsSmallBody (Some e) = IsSmall e
