use Rattle.ft_sound.proofs.Worked.{zero_file_is_good, other_set_is_not_good}
use Rattle.ft_sound.proofs.worked_file.Goals as goal

pub returns : goal.returns
returns c = record { good = zero_file_is_good; other = other_set_is_not_good }
