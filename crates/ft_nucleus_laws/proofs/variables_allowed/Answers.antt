use Rattle.ft_nucleus_laws.proofs.Declaring as proved
use Rattle.ft_nucleus_laws.proofs.variables_allowed.Goals as goal

pub returns : goal.returns
returns c = record { law = proved.variables_allowed }
