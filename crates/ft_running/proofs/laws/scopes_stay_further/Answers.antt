use Rattle.ft_running.proofs.Further.{scope_further, environment_further}
use Rattle.ft_running.proofs.laws.scopes_stay_further.Goals as goal

pub returns : goal.returns
returns c = λ e f s is g w. (scope_further e f s g w, environment_further e f s is g w)
