use Rattle.ft_whole_laws.proofs.Answered.{answers}
use Rattle.ft_whole_laws.proofs.answers_follow.Goals as goal

pub returns : goal.returns
returns c = record { law = answers }
