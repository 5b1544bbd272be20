use Rattle.ft_drafting.proofs.Staying.{draft_further, draft_same_further}
use Rattle.ft_drafting.proofs.laws.drafts_stay_further.Goals as goal

pub returns : goal.returns
returns c = record { draft = draft_further; same = draft_same_further }
