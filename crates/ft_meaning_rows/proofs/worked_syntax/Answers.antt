use Rattle.ft_meaning_rows.proofs.Syntax as proved
use Rattle.ft_meaning_rows.proofs.worked_syntax.Goals as goal

pub returns : goal.returns
returns c = record { rows = proved.each_holds; too_long = proved.too_long }
