use Rattle.std.proofs.Common.{length}
use Rattle.ft_check.proofs.parted.against.Goals as goal

pub is_same-is_concluded-requires-clause-y : goal.is_same-is_concluded-requires-clause-y
is_same-is_concluded-requires-clause-y c = c.parts-stated.ensures.below (length c.args.terms.now) c.requires.found
