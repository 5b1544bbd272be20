-- The atoms that calls look for in a set.
use Rattle.std.specs.Prelude.{ℕ, Option, Some, None, nat_eq, not, ◌&&◌, List}
use Rattle.ft_theory.specs.Rules.{look_up}
use Rattle.ft_items.specs.Sets.{Atom, met, var}
use Rattle.ft_items.specs.Store.{Annotation}
use Rattle.ft_items.specs.Rows.{when, rests_on}

-- the number of an atom that is a variable
abbrev pub variable_of_atom : Atom → Option ℕ
variable_of_atom (met m) = None
variable_of_atom (var v) = Some v

-- the number of an atom that is a variable other than v, whose annotation rests on v
abbrev pub dependent_atom : List (ℕ × Annotation) → ℕ → Atom → Option ℕ
dependent_atom G v (met m) = None
dependent_atom G v (var w) = when (not (nat_eq w v) && rests_on v (look_up G w)) w
