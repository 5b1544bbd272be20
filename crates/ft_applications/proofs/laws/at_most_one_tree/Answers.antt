use Rattle.ft_applications.proofs.Back.{one_tree}
use Rattle.ft_applications.proofs.laws.at_most_one_tree.Goals as goal

pub returns : goal.returns
returns c = record { law = one_tree }
