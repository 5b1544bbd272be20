use Rattle.ft_lines.proofs.Parts.{parts_back, parts_is}
use Rattle.ft_lines.proofs.laws.step_parts.Goals as goal

pub returns-clause-complete : goal.returns-clause-complete
returns-clause-complete c = parts_back

pub returns-clause-sound : goal.returns-clause-sound
returns-clause-sound c = parts_is
