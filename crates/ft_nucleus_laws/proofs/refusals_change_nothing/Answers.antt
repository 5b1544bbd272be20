use Rattle.ft_nucleus_laws.proofs.Declaring as proved
use Rattle.ft_nucleus_laws.proofs.refusals_change_nothing.Goals as goal

pub returns : goal.returns
returns c = record { law = proved.refusals_change_nothing }
