use Rattle.std.proofs.Common.{◌≡◌, map, take}
use Rattle.ft_syntax.specs.Table.{term_argument}
use Rattle.ft_syntax.proofs.table.terms_of.Given as goal

abbrev pub invariant-loop-e : goal.invariant-loop-e
invariant-loop-e l = l.list.items ≡ map term_argument (take l.e-index l.args)
