use Rattle.ft_laws.proofs.DerivationLaws.{law_general_instance}
use Rattle.ft_laws.proofs.law_general_instance.Goals as goal

pub returns : goal.returns
returns c = record { law = law_general_instance }
