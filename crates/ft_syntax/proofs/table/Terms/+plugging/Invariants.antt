use Rattle.std.proofs.Common.{◌+◌, ◌*◌}
use Rattle.ft_syntax.proofs.Changing.{change_measure}
use Rattle.ft_syntax.proofs.Planting.{Planting}
use Rattle.ft_syntax.proofs.table.Terms.+plugging.Given as goal

abbrev pub decreases-plug : goal.decreases-plug
decreases-plug l = 4 * l.e + 2

abbrev pub decreases-plug_arguments : goal.decreases-plug_arguments
decreases-plug_arguments l = 4 * l.e + 1

abbrev pub decreases-plug_body : goal.decreases-plug_body
decreases-plug_body l = change_measure l.body

abbrev pub invariant-plug_arguments-loop-a : goal.invariant-plug_arguments-loop-a
invariant-plug_arguments-loop-a l = Planting l.fn.self l.self l.fn.terms l.fn.under l.a-index l.a-items l.list.items
