use Rattle.ft_rules.proofs.Names.{begin_refused}
use Rattle.ft_rules.proofs.drafts.Draft.begin.Goals as goal

pub returns-in-Err-clause-begins : goal.returns-in-Err-clause-begins
returns-in-Err-clause-begins c = begin_refused c.args.k.now.items c.args.name.now c.in-Err.fault c.in-Err.ensures
