use Rattle.ft_nucleus_laws.proofs.Closing as proved
use Rattle.ft_nucleus_laws.proofs.closing_keeps_small.Goals as goal

pub returns : goal.returns
returns c = record { size = proved.closing_keeps_size; small = proved.closing_keeps_small }
