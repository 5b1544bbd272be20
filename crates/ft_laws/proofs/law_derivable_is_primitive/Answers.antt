use Rattle.ft_laws.proofs.DerivationLaws.{derivable_is_primitive, finitary_at_each_level}
use Rattle.ft_laws.proofs.law_derivable_is_primitive.Goals as goal

pub returns : goal.returns
returns c = record { law = derivable_is_primitive; levels = finitary_at_each_level }
