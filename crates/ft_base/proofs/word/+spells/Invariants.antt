use Rattle.std.proofs.Common.{length}
use Rattle.ft_base.proofs.word.+spells.Given as goal

abbrev pub decreases-spells : goal.decreases-spells
decreases-spells l = length l.chars.now
