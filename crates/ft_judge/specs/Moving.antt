-- Statements of which each expression is moved: opened, or closed.
use Rattle.std.specs.Prelude.{ℕ, zero, suc, ◌<◌, List, [], ◌∷◌}
use Rattle.ft_theory.specs.Expressions.{Expression, open_at, close_at}
use Rattle.ft_theory.specs.Statements.{Statement, AllOfStatement}
use Rattle.ft_theory.specs.Small.{IsSmall}
use Rattle.ft_syntax.specs.Table.{tree}
use Rattle.ft_judge.specs.declared.moving.Move.{Move}
use Rattle.ft_judge.specs.declared.moving.Move.TheVariants.{Open, Close}

-- each expression of the statement is small
abbrev pub IsSmallStatement : Statement → Type 0
IsSmallStatement x = AllOfStatement (λ k. IsSmall) zero x

-- the expression opened or closed below k domains
abbrev pub moved : List Expression → Move → ℕ → Expression → Expression
moved ts (Open t) k e = open_at k (tree ts t) e
moved ts (Close v) k e = close_at k v e

-- the domains moved, each below those before it and k more
abbrev pub moved_list : List Expression → Move → ℕ → List Expression → List Expression
moved_list ts m k [] = []
moved_list ts m k (A ∷ As) = moved ts m k A ∷ moved_list ts m (suc k) As

-- what is put is among the first n trees
abbrev pub MoveBelow : ℕ → Move → Type 0
MoveBelow n (Open t) = t < n
MoveBelow n (Close v) = Unit {0}

-- each expression is small
abbrev pub AreSmall : List Expression → Type 0
AreSmall [] = Unit {0}
AreSmall (A ∷ As) = IsSmall A × AreSmall As
