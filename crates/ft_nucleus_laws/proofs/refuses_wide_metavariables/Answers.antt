use Rattle.ft_nucleus_laws.proofs.Refused as proved
use Rattle.ft_nucleus_laws.proofs.refuses_wide_metavariables.Goals as goal

pub returns : goal.returns
returns c = record { law = proved.wide_refused }
