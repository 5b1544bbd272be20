use Rattle.ft_nucleus_laws.proofs.SmallAnswers as proved
use Rattle.ft_nucleus_laws.proofs.answers_small.Goals as goal

pub returns : goal.returns
returns c = record { law = proved.answers_small }
