use Rattle.ft_applications.proofs.Back.{reads}
use Rattle.ft_applications.proofs.laws.what_is_in_the_grammar_is_read.Goals as goal

pub returns : goal.returns
returns c = record { law = reads }
