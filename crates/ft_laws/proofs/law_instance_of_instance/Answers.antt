use Rattle.ft_laws.proofs.SyntaxLaws.{instance_of_instance, instance_of_rule_instance}
use Rattle.ft_laws.proofs.law_instance_of_instance.Goals as goal

pub returns : goal.returns
returns c = record { instance = instance_of_instance; rule = instance_of_rule_instance }
