use Rattle.ft_laws.proofs.NotDerivable.{nothing_from_boundary, nothing_from_annotation, nothing_from_equation}
use Rattle.ft_laws.proofs.example_ill_formed.Goals as goal

pub returns : goal.returns
returns c = record { boundary = nothing_from_boundary; annotation = nothing_from_annotation; equation = nothing_from_equation }
