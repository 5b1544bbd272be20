use Rattle.ft_telling.proofs.Variables.{variable_tells, bound_tells, bound_boundary_tells}
use Rattle.ft_telling.proofs.laws.variables_tell.Goals as goal

pub returns : goal.returns
returns c = record { new = variable_tells; bound = bound_tells; bound_boundary = bound_boundary_tells }
