use Rattle.ft_lines.proofs.Claims.{thesis_back, thesis_is}
use Rattle.ft_lines.proofs.laws.theses.Goals as goal

pub returns-clause-complete : goal.returns-clause-complete
returns-clause-complete c = thesis_back

pub returns-clause-sound : goal.returns-clause-sound
returns-clause-sound c = thesis_is
