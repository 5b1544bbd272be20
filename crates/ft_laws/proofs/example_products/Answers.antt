use Rattle.ft_laws.proofs.ProductsFinitary.{products_are_finitary, beta_is_derivable}
use Rattle.ft_laws.proofs.example_products.Goals as goal

pub returns : goal.returns
returns c = record { finitary = products_are_finitary; beta = beta_is_derivable }
