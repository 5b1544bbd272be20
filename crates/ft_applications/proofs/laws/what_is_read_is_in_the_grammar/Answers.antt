use Rattle.ft_applications.proofs.SoundCommands.{sound}
use Rattle.ft_applications.proofs.laws.what_is_read_is_in_the_grammar.Goals as goal

pub returns : goal.returns
returns c = record { law = sound }
