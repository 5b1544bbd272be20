use Rattle.ft_nucleus_laws.proofs.Refused as proved
use Rattle.ft_nucleus_laws.proofs.refuses_declarations.Goals as goal

pub returns : goal.returns
returns c = record { names = proved.names_refused; opened = proved.open_refused }
