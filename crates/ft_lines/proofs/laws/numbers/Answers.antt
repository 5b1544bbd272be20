use Rattle.ft_lines.proofs.Numbers.{number_read, number_is}
use Rattle.ft_lines.proofs.laws.numbers.Goals as goal

pub returns-clause-complete : goal.returns-clause-complete
returns-clause-complete c = number_read

pub returns-clause-sound : goal.returns-clause-sound
returns-clause-sound c = number_is
