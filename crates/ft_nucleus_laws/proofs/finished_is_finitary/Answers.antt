use Rattle.ft_nucleus_laws.proofs.Declaring as proved
use Rattle.ft_nucleus_laws.proofs.finished_is_finitary.Goals as goal

pub returns : goal.returns
returns c = record { law = proved.finished_is_finitary }
