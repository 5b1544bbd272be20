use Rattle.ft_laws.proofs.OpenBoundaries.{substitution_needs_variable_free}
use Rattle.ft_laws.proofs.counterexample_free_variable_in_boundary.Goals as goal

pub returns : goal.returns
returns c = record { law = substitution_needs_variable_free }
