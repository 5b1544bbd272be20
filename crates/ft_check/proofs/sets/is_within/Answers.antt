use Rattle.std.proofs.Common.{◌∙◌}
use Rattle.ft_check.proofs.OfSets.{within_all}
use Rattle.ft_check.proofs.sets.is_within.Goals as goal

pub returns : goal.returns
returns c = c.are_among.ensures ∙ within_all _ _ _ c.atoms.ensures.atoms
