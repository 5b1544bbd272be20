-- What the calls for one variable do, each below k binders or domains.
use Rattle.std.specs.Prelude.{ℕ, ◌+◌, ◌<◌, List, option_map}
use Rattle.ft_theory.specs.Expressions.{Expression, under_binders, rename, substitute, in_place_of, open_at, close_at}
use Rattle.ft_syntax.specs.Arguments.{Argument}
use Rattle.ft_syntax.specs.Table.{tree}
use Rattle.ft_syntax.specs.declared.change.Change.{Change}
use Rattle.ft_syntax.specs.declared.change.Change.TheVariants.{Open, Close, Replace, Raise}

-- the expression with the change made
abbrev pub changed : List Expression → Change → ℕ → Expression → Expression
changed ts (Open t) k e = open_at k (tree ts t) e
changed ts (Close v) k e = close_at k v e
changed ts (Replace v t) k e = substitute (in_place_of v (tree ts t)) e
changed ts (Raise n) k e = rename (under_binders k (λ i. i + n)) e

-- the argument with the change made in its body
abbrev pub changed_argument : List Expression → Change → ℕ → Argument → Argument
changed_argument ts c k p = (p.0, option_map (changed ts c (p.0 + k)) p.1)

-- what is put is among the first n trees
abbrev pub ChangeBelow : ℕ → Change → Type 0
ChangeBelow n (Open t) = t < n
ChangeBelow n (Close v) = Unit {0}
ChangeBelow n (Replace v t) = t < n
ChangeBelow n (Raise m) = Unit {0}
