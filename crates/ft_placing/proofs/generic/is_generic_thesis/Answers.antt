use Rattle.std.proofs.Common.{length}
use Rattle.ft_placing.proofs.generic.is_generic_thesis.Goals as goal

pub is_same-requires-clause-x : goal.is_same-requires-clause-x
is_same-requires-clause-x c = c.boundary_parts-asked.ensures.below (length c.args.terms.now) c.requires.b

pub is_same-requires-clause-y : goal.is_same-requires-clause-y
is_same-requires-clause-y c = c.in-Some.ensures.below (length c.args.terms.now) c.requires.y
