use Rattle.ft_nucleus_laws.proofs.Declaring as proved
use Rattle.ft_nucleus_laws.proofs.answers_what_is_declared.Goals as goal

pub returns : goal.returns
returns c = record { variable = proved.variable_is_there; metavariable = proved.metavariable_is_there; premise = proved.premise_is_there; rule = proved.rule_is_there }
