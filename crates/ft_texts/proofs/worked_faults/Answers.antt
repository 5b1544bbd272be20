use Rattle.ft_texts.proofs.Worked as worked
use Rattle.ft_texts.proofs.worked_faults.Goals as goal

pub returns : goal.returns
returns c = record { law = worked.worked_faults }
