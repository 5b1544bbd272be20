use Rattle.ft_nucleus_laws.proofs.Calls as proved
use Rattle.ft_nucleus_laws.proofs.answers_derivable.Goals as goal

pub returns : goal.returns
returns c = record { law = proved.answers_derivable }
