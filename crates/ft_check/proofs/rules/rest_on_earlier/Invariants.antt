use Rattle.std.proofs.Common.{◌≡◌, take, []}
use Rattle.ft_check.specs.Entries.{boundary_set, rest_on_earlier}
use Rattle.ft_check.proofs.Premises.{left_at}
use Rattle.ft_check.proofs.rules.rest_on_earlier.Given as goal

abbrev pub invariant-loop-k : goal.invariant-loop-k
invariant-loop-k l = rest_on_earlier (boundary_set (take l.i l.items.items)) [] l.ms ≡ left_at (boundary_set (take l.i l.items.items)) l.ms l.k
