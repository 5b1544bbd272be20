use Rattle.ft_laws.proofs.DerivationLaws.{law_domain, law_domain_at_each}
use Rattle.ft_laws.proofs.law_domain.Goals as goal

pub returns : goal.returns
returns c = record { some = law_domain; each = law_domain_at_each }
