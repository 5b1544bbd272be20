use Rattle.ft_meaning_laws.proofs.Whole as proved
use Rattle.ft_meaning_laws.proofs.derivable.accepted_is_finitary.Goals as goal

pub returns : goal.returns
returns c = record { law = proved.accepted_is_finitary }
