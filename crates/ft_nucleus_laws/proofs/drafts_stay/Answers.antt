use Rattle.ft_nucleus_laws.proofs.Declaring as proved
use Rattle.ft_nucleus_laws.proofs.drafts_stay.Goals as goal

pub returns : goal.returns
returns c = record { law = proved.drafts_stay }
