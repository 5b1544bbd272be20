use Rattle.ft_running.proofs.Further.{call_evaluation, call_goes}
use Rattle.ft_running.proofs.laws.calls_go_further.Goals as goal

pub returns : goal.returns
returns c = λ e n r t is h. (call_evaluation e n r t is h, call_goes e n r t h)
