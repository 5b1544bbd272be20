use Rattle.ft_texts.proofs.Lines as lines
use Rattle.ft_texts.proofs.at_most_one_list.Goals as goal

pub returns : goal.returns
returns c = record { law = lines.at_most_one_list }
