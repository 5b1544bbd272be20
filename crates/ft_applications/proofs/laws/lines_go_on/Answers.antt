use Rattle.ft_applications.proofs.Lines.{lines_begin}
use Rattle.ft_applications.proofs.laws.lines_go_on.Goals as goal

pub returns : goal.returns
returns c = record { law = lines_begin }
