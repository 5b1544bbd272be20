use Rattle.ft_lines.proofs.Claims.{boundary_back, boundary_is}
use Rattle.ft_lines.proofs.laws.boundaries.Goals as goal

pub returns-clause-complete : goal.returns-clause-complete
returns-clause-complete c = boundary_back

pub returns-clause-sound : goal.returns-clause-sound
returns-clause-sound c = boundary_is
