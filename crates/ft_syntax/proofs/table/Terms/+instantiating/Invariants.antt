use Rattle.std.proofs.Common.{◌+◌, ◌*◌}
use Rattle.ft_syntax.proofs.Changing.{change_measure}
use Rattle.ft_syntax.proofs.Instantiating.{Instantiating, Gathering}
use Rattle.ft_syntax.proofs.table.Terms.+instantiating.Given as goal

abbrev pub decreases-instantiated : goal.decreases-instantiated
decreases-instantiated l = 4 * l.e + 2

abbrev pub decreases-instantiate_arguments : goal.decreases-instantiate_arguments
decreases-instantiate_arguments l = 4 * l.e + 1

abbrev pub decreases-instantiate_meta : goal.decreases-instantiate_meta
decreases-instantiate_meta l = 4 * l.e + 1

abbrev pub decreases-instantiate_body : goal.decreases-instantiate_body
decreases-instantiate_body l = change_measure l.body

abbrev pub decreases-instantiate_term : goal.decreases-instantiate_term
decreases-instantiate_term l = change_measure l.body

abbrev pub invariant-instantiate_arguments-loop-a : goal.invariant-instantiate_arguments-loop-a
invariant-instantiate_arguments-loop-a l = Instantiating l.fn.self l.self l.fn.pairs l.a-index l.a-items l.list.items

abbrev pub invariant-instantiate_meta-loop-a : goal.invariant-instantiate_meta-loop-a
invariant-instantiate_meta-loop-a l = Gathering l.fn.self l.self l.fn.pairs l.a-index l.a-items l.terms.items
