use Rattle.ft_lines.proofs.NameLetters.{names_scalars}
use Rattle.ft_lines.proofs.laws.names_have_scalars.Goals as goal

pub returns : goal.returns
returns c = names_scalars
