use Rattle.ft_running.proofs.Reading.{judgement_read}
use Rattle.ft_running.proofs.laws.judgements_are_read.Goals as goal

pub returns : goal.returns
returns c = judgement_read
