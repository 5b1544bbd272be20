use Rattle.std.proofs.Common.{◌+◌, ◌*◌}
use Rattle.ft_syntax.specs.Changes.{changed_argument}
use Rattle.ft_syntax.proofs.Changing.{Mapped, change_measure}
use Rattle.ft_syntax.proofs.table.Terms.+changing.Given as goal

abbrev pub decreases-change : goal.decreases-change
decreases-change l = 4 * l.e + 2

abbrev pub decreases-change_arguments : goal.decreases-change_arguments
decreases-change_arguments l = 4 * l.e + 1

abbrev pub decreases-change_body : goal.decreases-change_body
decreases-change_body l = change_measure l.body

abbrev pub invariant-change_arguments-loop-a : goal.invariant-change_arguments-loop-a
invariant-change_arguments-loop-a l = Mapped (changed_argument l.fn.self l.fn.change l.under) l.fn.self l.self l.a-index l.a-items l.list.items
