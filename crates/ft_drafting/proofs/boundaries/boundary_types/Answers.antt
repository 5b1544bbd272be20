use Rattle.ft_running.proofs.Called.{leaves_evaluation}
use Rattle.ft_drafting.proofs.boundaries.boundary_types.Goals as goal

pub invariant_of-state : goal.invariant_of-state
invariant_of-state c = leaves_evaluation (record { list = c.state.inside.kernel; values = c.state.inside.values; scopes = c.state.inside.scopes; top = c.state.inside.top; units = c.state.inside.units }) c.type_equations-answer.new.k c.state.invariant c.type_equations-answer.ensures.told.leaves
