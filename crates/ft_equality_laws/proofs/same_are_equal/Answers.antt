use Rattle.ft_equality_laws.proofs.Counts as counts
use Rattle.ft_equality_laws.proofs.same_are_equal.Goals as goal

pub returns : goal.returns
returns c = record { law = counts.same_are_equal }
