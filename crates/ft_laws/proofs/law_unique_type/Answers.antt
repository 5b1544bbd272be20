use Rattle.ft_laws.proofs.DerivationLaws.{law_unique_type}
use Rattle.ft_laws.proofs.law_unique_type.Goals as goal

pub returns : goal.returns
returns c = record { law = law_unique_type }
