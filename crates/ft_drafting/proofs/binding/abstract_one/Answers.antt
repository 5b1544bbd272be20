use Rattle.ft_running.proofs.Called.{leaves_evaluation}
use Rattle.ft_drafting.proofs.binding.abstract_one.Goals as goal

pub invariant_of-state : goal.invariant_of-state
invariant_of-state c = leaves_evaluation (record { list = c.state.inside.kernel; values = c.state.inside.values; scopes = c.state.inside.scopes; top = c.state.inside.top; units = c.state.inside.units }) c.bound-answer.new.k c.state.invariant c.bound-answer.ensures.told.leaves
