use Rattle.ft_meaning_rows.proofs.Deep as proved
use Rattle.ft_meaning_rows.proofs.worked_depth.Goals as goal

pub returns : goal.returns
returns c = record { rows = proved.each_holds; deepest = proved.deepest }
