use Rattle.ft_equality_laws.proofs.Counts as counts
use Rattle.ft_equality_laws.proofs.calls_unroll.Goals as goal

pub returns : goal.returns
returns c = record { law = counts.calls_unroll }
