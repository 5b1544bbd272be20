use Rattle.ft_laws.proofs.DerivationLaws.{law_simultaneous_substitution}
use Rattle.ft_laws.proofs.law_simultaneous_substitution.Goals as goal

pub returns : goal.returns
returns c = record { law = law_simultaneous_substitution }
