use Rattle.std.proofs.Common.{◌∙◌}
use Rattle.ft_check.proofs.OfSets.{metavariables_all}
use Rattle.ft_check.proofs.sets.has_no_variable.Goals as goal

pub returns : goal.returns
returns c = c.are_metavariables.ensures ∙ metavariables_all _ _ c.atoms.ensures.atoms
