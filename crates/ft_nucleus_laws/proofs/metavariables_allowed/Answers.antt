use Rattle.ft_nucleus_laws.proofs.Declaring as proved
use Rattle.ft_nucleus_laws.proofs.metavariables_allowed.Goals as goal

pub returns : goal.returns
returns c = record { law = proved.metavariables_allowed }
