use Rattle.ft_meaning_laws.proofs.Transcripts as proved
use Rattle.ft_meaning_laws.proofs.safe.stages_agree.Goals as goal

pub returns : goal.returns
returns c = record { law = proved.stages_agree }
