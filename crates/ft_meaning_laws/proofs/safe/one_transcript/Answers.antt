use Rattle.ft_meaning_laws.proofs.Contents as proved
use Rattle.ft_meaning_laws.proofs.safe.one_transcript.Goals as goal

pub returns : goal.returns
returns c = record { law = proved.one_transcript }
