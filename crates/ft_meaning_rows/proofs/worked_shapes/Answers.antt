use Rattle.ft_meaning_rows.proofs.Shapes as proved
use Rattle.ft_meaning_rows.proofs.worked_shapes.Goals as goal

pub returns : goal.returns
returns c = record { rows = proved.each_holds }
