use Rattle.ft_lines.proofs.Trees.{expression_read, expression_is}
use Rattle.ft_lines.proofs.laws.expressions.Goals as goal

pub returns-clause-complete : goal.returns-clause-complete
returns-clause-complete c = expression_read

pub returns-clause-sound : goal.returns-clause-sound
returns-clause-sound c = expression_is
