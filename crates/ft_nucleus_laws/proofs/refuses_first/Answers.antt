use Rattle.ft_nucleus_laws.proofs.Calls as proved
use Rattle.ft_nucleus_laws.proofs.refuses_first.Goals as goal

pub returns : goal.returns
returns c = record { law = proved.refuses_first }
