use Rattle.ft_laws.proofs.Products.{two_is_natural}
use Rattle.ft_laws.proofs.example_naturals.Goals as goal

pub returns : goal.returns
returns c = record { two = two_is_natural }
