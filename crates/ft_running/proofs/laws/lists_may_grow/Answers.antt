use Rattle.std.proofs.Common.{arith, ap}
use Rattle.ft_kernel.specs.State.{next_number}
use Rattle.ft_running.proofs.Further.{list_evaluation}
use Rattle.ft_running.proofs.laws.lists_may_grow.Goals as goal

pub returns : goal.returns
returns c = λ e t is g same. list_evaluation e t e.units is g (omega (arith, is.numbered, ap next_number same)) is.within
