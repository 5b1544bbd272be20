use Rattle.ft_laws.proofs.FreeRules.{law_needs_finitary}
use Rattle.ft_laws.proofs.counterexample_not_finitary.Goals as goal

pub returns : goal.returns
returns c = record { law = law_needs_finitary }
