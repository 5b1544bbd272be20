use Rattle.ft_kernel.proofs.Staying.{entry_stays, variable_stays, metavariable_stays, rule_stays}
use Rattle.ft_kernel.proofs.laws.tokens_stay.Goals as goal

pub returns : goal.returns
returns c = record { entry = entry_stays; variable = variable_stays; metavariable = metavariable_stays; rule = rule_stays }
