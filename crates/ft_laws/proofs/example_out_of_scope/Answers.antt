use Rattle.ft_laws.proofs.NotDerivable.{no_absent_variable, no_loose_variable}
use Rattle.ft_laws.proofs.example_out_of_scope.Goals as goal

pub returns : goal.returns
returns c = record { absent = no_absent_variable; loose = no_loose_variable }
