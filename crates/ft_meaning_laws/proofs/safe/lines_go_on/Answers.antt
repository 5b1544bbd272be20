use Rattle.ft_meaning_laws.proofs.Transcripts as proved
use Rattle.ft_meaning_laws.proofs.safe.lines_go_on.Goals as goal

pub returns : goal.returns
returns c = record { beginning = proved.lines_go_on; end = proved.runs_end }
