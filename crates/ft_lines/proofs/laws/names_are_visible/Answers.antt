use Rattle.ft_lines.proofs.NameLetters.{names_visible}
use Rattle.ft_lines.proofs.laws.names_are_visible.Goals as goal

pub returns : goal.returns
returns c = names_visible
