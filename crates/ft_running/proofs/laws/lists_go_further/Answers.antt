use Rattle.ft_running.proofs.Further.{list_evaluation, list_goes}
use Rattle.ft_running.proofs.laws.lists_go_further.Goals as goal

pub returns : goal.returns
returns c = λ e t u is g next used within total. (list_evaluation e t u is (g.0, g.1) next within, list_goes e t u g used total)
