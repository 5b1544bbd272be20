use Rattle.ft_laws.proofs.Strengthening.{no_strengthening}
use Rattle.ft_laws.proofs.counterexample_strengthening.Goals as goal

pub returns : goal.returns
returns c = record { law = no_strengthening }
