use Rattle.ft_calling.proofs.RulesCalled.{rules_stay}
use Rattle.ft_calling.proofs.laws.rules_stay.Goals as goal

pub returns : goal.returns
returns c = record { law = rules_stay }
