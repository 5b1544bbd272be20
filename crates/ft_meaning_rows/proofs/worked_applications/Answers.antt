use Rattle.ft_meaning_rows.proofs.Applications as proved
use Rattle.ft_meaning_rows.proofs.worked_applications.Goals as goal

pub returns : goal.returns
returns c = record { rows = proved.each_holds }
