use Rattle.ft_nucleus_laws.proofs.Calls as proved
use Rattle.ft_nucleus_laws.proofs.answers_its_row.Goals as goal

pub returns : goal.returns
returns c = record { law = proved.answers_its_row }
