use Rattle.std.proofs.Common.{◌+◌, ◌*◌}
use Rattle.ft_syntax.proofs.Changing.{change_measure}
use Rattle.ft_syntax.proofs.Copying.{Copying}
use Rattle.ft_syntax.proofs.table.Terms.+copying.Given as goal

abbrev pub decreases-copied : goal.decreases-copied
decreases-copied l = 4 * l.e + 2

abbrev pub decreases-copied_application : goal.decreases-copied_application
decreases-copied_application l = 4 * l.e + 1

abbrev pub decreases-copied_body : goal.decreases-copied_body
decreases-copied_body l = change_measure l.body

abbrev pub invariant-copied_application-loop-a : goal.invariant-copied_application-loop-a
invariant-copied_application-loop-a l = Copying l.other l.fn.self l.self l.a-index l.a-items l.list.items
