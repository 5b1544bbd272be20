use Rattle.ft_whole_laws.proofs.Caused.{causes}
use Rattle.ft_whole_laws.proofs.causes_follow.Goals as goal

pub returns : goal.returns
returns c = record { law = causes }
