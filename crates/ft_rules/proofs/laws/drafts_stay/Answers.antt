use Rattle.ft_rules.proofs.Mets as proved
use Rattle.ft_rules.proofs.laws.drafts_stay.Goals as goal

pub returns-clause-draft : goal.returns-clause-draft
returns-clause-draft c = proved.drafts_stay

pub returns-clause-same : goal.returns-clause-same
returns-clause-same c = proved.same_later
