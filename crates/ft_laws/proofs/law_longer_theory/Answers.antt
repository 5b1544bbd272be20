use Rattle.ft_laws.proofs.DerivationLaws.{law_longer_theory, law_longer_theory_primitive}
use Rattle.ft_laws.proofs.law_longer_theory.Goals as goal

pub returns : goal.returns
returns c = record { law = law_longer_theory; primitive = law_longer_theory_primitive }
