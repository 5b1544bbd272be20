use Rattle.ft_equality_laws.proofs.Counts as counts
use Rattle.ft_equality_laws.proofs.units_are_kept.Goals as goal

pub returns : goal.returns
returns c = record { law = counts.units_are_kept }
