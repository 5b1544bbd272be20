use Rattle.ft_nucleus_laws.proofs.Closing as proved
use Rattle.ft_nucleus_laws.proofs.abstractions_small.Goals as goal

pub returns : goal.returns
returns c = record { law = proved.abstractions_small }
