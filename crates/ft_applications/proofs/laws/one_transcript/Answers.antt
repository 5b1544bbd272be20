use Rattle.ft_applications.proofs.Lines.{has_transcript, one_transcript}
use Rattle.ft_applications.proofs.laws.one_transcript.Goals as goal

pub returns : goal.returns
returns c = record { some = has_transcript; one = one_transcript }
