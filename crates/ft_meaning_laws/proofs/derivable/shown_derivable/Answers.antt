use Rattle.ft_meaning_laws.proofs.Whole as proved
use Rattle.ft_meaning_laws.proofs.derivable.shown_derivable.Goals as goal

pub returns : goal.returns
returns c = record { law = proved.shown_derivable; over = proved.shown_over_accepted }
