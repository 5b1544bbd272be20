use Rattle.std.proofs.Common.{map}
use Rattle.ft_syntax.specs.Arguments.{applied}
use Rattle.ft_syntax.specs.Chains.{after}
use Rattle.ft_syntax.specs.Table.{argument_in}
use Rattle.ft_syntax.proofs.Finding.{Looked}
use Rattle.ft_syntax.proofs.table.Terms.found.Given as goal

abbrev pub decreases-looking : goal.decreases-looking
decreases-looking l = after l.at

abbrev pub invariant-looking : goal.invariant-looking
invariant-looking l = Looked l.self l.self-inside.index l.mark (applied l.fn.node (map (argument_in l.self) l.args)) l.at
