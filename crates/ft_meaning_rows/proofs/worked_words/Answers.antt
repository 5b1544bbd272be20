use Rattle.ft_meaning_rows.proofs.Words as proved
use Rattle.ft_meaning_rows.proofs.worked_words.Goals as goal

pub returns : goal.returns
returns c = record { rows = proved.each_holds }
