use Rattle.ft_lines.proofs.Atoms.{set_read, set_is}
use Rattle.ft_lines.proofs.laws.sets.Goals as goal

pub returns-clause-complete : goal.returns-clause-complete
returns-clause-complete c = set_read

pub returns-clause-sound : goal.returns-clause-sound
returns-clause-sound c = set_is
