use Rattle.ft_lines.proofs.NameTexts.{name_read, name_is}
use Rattle.ft_lines.proofs.laws.names.Goals as goal

pub returns-clause-complete : goal.returns-clause-complete
returns-clause-complete c = name_read

pub returns-clause-sound : goal.returns-clause-sound
returns-clause-sound c = name_is
