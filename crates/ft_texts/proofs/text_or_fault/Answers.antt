use Rattle.ft_texts.proofs.Faults as faults
use Rattle.ft_texts.proofs.text_or_fault.Goals as goal

pub returns : goal.returns
returns c = record { law = faults.text_or_fault }
