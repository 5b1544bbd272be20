use Rattle.ft_meaning_laws.proofs.SafeRuns as proved
use Rattle.ft_meaning_laws.proofs.safe.typed_commands_fit.Goals as goal

pub returns : goal.returns
returns c = record { law = proved.typed_commands_fit; first = proved.first_state_fits }
