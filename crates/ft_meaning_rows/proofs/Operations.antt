-- By computation.
use Rattle.std.proofs.Common.{refl}
use Rattle.ft_meaning_rows.specs.Written.{Holds, AllHold}
use Rattle.ft_meaning_rows.specs.Operations as row
use Rattle.ft_meaning_rows.proofs.Running.{holds, running}

leaked : Holds row.leaked
unfolding running
leaked = holds row.leaked refl

leaked_in_conclusion : Holds row.leaked_in_conclusion
unfolding running
leaked_in_conclusion = holds row.leaked_in_conclusion refl

dependent : Holds row.dependent
unfolding running
dependent = holds row.dependent refl

set_kept : Holds row.set_kept
unfolding running
set_kept = holds row.set_kept refl

both_picked : Holds row.both_picked
unfolding running
both_picked = holds row.both_picked refl

declared_again : Holds row.declared_again
unfolding running
declared_again = holds row.declared_again refl

quiet : Holds row.quiet
unfolding running
quiet = holds row.quiet refl

pub each_holds : AllHold row.operations
each_holds = (leaked, (leaked_in_conclusion, (dependent, (set_kept, (both_picked, (declared_again, (quiet, tt)))))))
