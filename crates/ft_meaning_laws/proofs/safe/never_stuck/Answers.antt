use Rattle.ft_meaning_laws.proofs.Transcripts as proved
use Rattle.ft_meaning_laws.proofs.safe.never_stuck.Goals as goal

pub returns : goal.returns
returns c = record { law = proved.never_stuck }
