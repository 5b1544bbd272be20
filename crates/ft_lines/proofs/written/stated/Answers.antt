use Rattle.ft_lines.proofs.StepsOf.{told_some, told_none}
use Rattle.ft_lines.proofs.written.stated.Goals as goal

pub returns-clause-some : goal.returns-clause-some
returns-clause-some c = told_some c.args.word c.args.parts.now c.told.result c.told.ensures

pub returns-clause-none : goal.returns-clause-none
returns-clause-none c = told_none c.args.word c.args.parts.now c.told.result c.told.ensures
