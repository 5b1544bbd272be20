use Rattle.ft_meaning_rows.proofs.Operations as proved
use Rattle.ft_meaning_rows.proofs.worked_operations.Goals as goal

pub returns : goal.returns
returns c = record { rows = proved.each_holds }
