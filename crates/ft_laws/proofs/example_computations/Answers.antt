use Rattle.ft_laws.proofs.Examples.{terms_in_order, conclusion_of_application, premises_of_application}
use Rattle.ft_laws.proofs.example_computations.Goals as goal

pub returns : goal.returns
returns c = record { order = terms_in_order; conclusion = conclusion_of_application; premises = premises_of_application }
