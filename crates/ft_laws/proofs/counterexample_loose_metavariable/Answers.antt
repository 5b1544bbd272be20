use Rattle.ft_laws.proofs.LooseBoundaries.{sides_need_the_boundary}
use Rattle.ft_laws.proofs.counterexample_loose_metavariable.Goals as goal

pub returns : goal.returns
returns c = record { law = sides_need_the_boundary }
