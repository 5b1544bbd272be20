use Rattle.ft_values.proofs.Meant.{members_are}
use Rattle.ft_values.proofs.laws.members_are.Goals as goal

pub returns : goal.returns
returns c = members_are
