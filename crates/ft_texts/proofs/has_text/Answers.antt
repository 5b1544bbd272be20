use Rattle.ft_texts.proofs.Lines as lines
use Rattle.ft_texts.proofs.has_text.Goals as goal

pub returns : goal.returns
returns c = record { law = lines.has_text }
