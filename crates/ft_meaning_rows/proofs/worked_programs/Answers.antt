use Rattle.ft_meaning_rows.proofs.Programs as proved
use Rattle.ft_meaning_rows.proofs.worked_programs.Goals as goal

pub returns : goal.returns
returns c = record { rows = proved.each_holds }
