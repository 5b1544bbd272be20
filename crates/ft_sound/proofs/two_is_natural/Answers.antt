use Rattle.ft_sound.proofs.Worked as worked
use Rattle.ft_sound.proofs.two_is_natural.Goals as goal

pub returns : goal.returns
returns c = record { law = worked.two_is_natural }
