use Rattle.ft_meaning_laws.proofs.Mentions as proved
use Rattle.ft_meaning_laws.proofs.texts.variables_mentioned.Goals as goal

pub returns : goal.returns
returns c = record { law = proved.variables_mentioned }
