use Rattle.ft_syntax.proofs.Chained.{Relinked}
use Rattle.ft_syntax.proofs.index.chained_anew.Given as goal

abbrev pub invariant-loop-link : goal.invariant-loop-link
invariant-loop-link l = Relinked l.old l.link-index l.heads.items l.links.items
