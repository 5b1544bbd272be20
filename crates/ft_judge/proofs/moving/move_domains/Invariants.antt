use Rattle.ft_judge.proofs.Moves.{Moving}
use Rattle.ft_judge.proofs.moving.move_domains.Given as goal

abbrev pub invariant-loop-i : goal.invariant-loop-i
invariant-loop-i l = Moving l.fn.t l.t l.work l.i l.xs l.fn.list l.list
