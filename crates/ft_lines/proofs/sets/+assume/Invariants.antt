use Rattle.std.proofs.Common.{length}
use Rattle.ft_lines.proofs.sets.+assume.Given as goal

abbrev pub decreases-assume : goal.decreases-assume
decreases-assume l = length l.atoms.now
