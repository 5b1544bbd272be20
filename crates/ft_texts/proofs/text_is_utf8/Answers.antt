use Rattle.ft_texts.proofs.Scalars as scalars
use Rattle.ft_texts.proofs.text_is_utf8.Goals as goal

pub returns : goal.returns
returns c = record { text = scalars.text_is_utf8; line = scalars.line_is_utf8 }
