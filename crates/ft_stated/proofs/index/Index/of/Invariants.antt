use Rattle.std.proofs.Common.{take, List}
use Rattle.ft_theory.specs.Expressions.{Expression}
use Rattle.ft_stated.specs.Lines.{items_in}
use Rattle.ft_stated.specs.Places.{AreIndexes}
use Rattle.ft_stated.proofs.index.Index.of.Given as goal

abbrev pub invariant-noting : goal.invariant-noting
invariant-noting l = (ts : List Expression) → AreIndexes (items_in ts (take l.k l.stated)) l.index.entries.items l.index.metavariables.items l.index.rules.items
