use Rattle.ft_laws.proofs.DerivationLaws.{law_general_equal_instances, law_right_instance}
use Rattle.ft_laws.proofs.law_general_equal_instances.Goals as goal

pub returns : goal.returns
returns c = record { heads = law_general_equal_instances; right = law_right_instance }
