use Rattle.ft_meaning_rows.proofs.Equality as proved
use Rattle.ft_meaning_rows.proofs.worked_equality.Goals as goal

pub returns : goal.returns
returns c = record { rows = proved.each_holds }
