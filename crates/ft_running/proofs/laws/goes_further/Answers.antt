use Rattle.ft_running.proofs.Further.{further_same, further_both}
use Rattle.ft_running.proofs.laws.goes_further.Goals as goal

pub returns : goal.returns
returns c = record { same = further_same; both = further_both }
