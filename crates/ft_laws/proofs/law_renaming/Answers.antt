use Rattle.ft_laws.proofs.DerivationLaws.{law_renaming}
use Rattle.ft_laws.proofs.law_renaming.Goals as goal

pub returns : goal.returns
returns c = record { law = law_renaming }
