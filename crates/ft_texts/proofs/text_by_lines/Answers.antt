use Rattle.ft_texts.proofs.ByLines as lines
use Rattle.ft_texts.proofs.text_by_lines.Goals as goal

pub returns : goal.returns
returns c = record { law = lines.text_by_lines }
