use Rattle.ft_meaning_laws.proofs.Staying as proved
use Rattle.ft_meaning_laws.proofs.texts.texts_stay.Goals as goal

pub returns : goal.returns
returns c = record { law = proved.texts_stay }
