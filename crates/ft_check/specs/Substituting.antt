-- What is put for the variable of a first domain.
use Rattle.std.specs.Prelude.{Option}
use Rattle.ft_theory.specs.Statements.{Statement}
use Rattle.ft_items.specs.Rows.{substitution, equal_substitution}
use Rattle.ft_check.specs.declared.binding.By.{By}
use Rattle.ft_check.specs.declared.binding.By.TheVariants.{Term, Equation}

-- the first statement with the term of the second for the variable of its first domain, or the equation with each side
abbrev pub put : By → Statement → Statement → Option Statement
put Term x y = substitution x y
put Equation x y = equal_substitution x y
