use Rattle.ft_drafting.proofs.Staying.{bound_further, bounds_same_further}
use Rattle.ft_drafting.proofs.laws.bound_stay_further.Goals as goal

pub returns : goal.returns
returns c = record { bound = bound_further; same = bounds_same_further }
