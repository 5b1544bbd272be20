use Rattle.ft_texts.proofs.Faults as faults
use Rattle.ft_texts.proofs.text_has_no_fault.Goals as goal

pub returns : goal.returns
returns c = record { law = faults.text_has_no_fault }
