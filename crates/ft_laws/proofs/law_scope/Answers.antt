use Rattle.ft_laws.proofs.DerivationLaws.{law_scope}
use Rattle.ft_laws.proofs.law_scope.Goals as goal

pub returns : goal.returns
returns c = record { law = law_scope }
