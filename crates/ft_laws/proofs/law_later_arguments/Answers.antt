use Rattle.ft_laws.proofs.LaterArguments.{law_later_arguments}
use Rattle.ft_laws.proofs.law_later_arguments.Goals as goal

pub returns : goal.returns
returns c = record { law = law_later_arguments }
