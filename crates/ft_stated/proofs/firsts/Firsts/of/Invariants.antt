use Rattle.std.proofs.Common.{take, List}
use Rattle.ft_theory.specs.Expressions.{Expression}
use Rattle.ft_stated.specs.Lines.{items_in}
use Rattle.ft_stated.specs.First.{AreFirsts}
use Rattle.ft_stated.proofs.firsts.Firsts.of.Given as goal

abbrev pub invariant-noting : goal.invariant-noting
invariant-noting l = (ts : List Expression) → AreFirsts (items_in ts (take l.k l.stated)) l.firsts.variables.entries l.firsts.rules.entries l.firsts.greatest.items
