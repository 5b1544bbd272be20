use Rattle.ft_texts.proofs.Worked as worked
use Rattle.ft_texts.proofs.worked_text.Goals as goal

pub returns : goal.returns
returns c = record { law = worked.worked_text; lines = worked.worked_lines }
