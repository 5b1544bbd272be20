use Rattle.ft_texts.proofs.Faults as faults
use Rattle.ft_texts.proofs.at_most_one_fault.Goals as goal

pub returns : goal.returns
returns c = record { law = faults.at_most_one_fault }
