use Rattle.ft_nucleus_laws.proofs.Least as proved
use Rattle.ft_nucleus_laws.proofs.names_the_least.Goals as goal

pub returns : goal.returns
returns c = record { outside = proved.first_outside_is_least; variable = proved.first_variable_is_least; dependent = proved.first_dependent_is_least }
