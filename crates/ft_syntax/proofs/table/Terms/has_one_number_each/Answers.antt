use Rattle.std.proofs.Common.{subst}
use Rattle.ft_syntax.specs.Table.{AreDifferent}
use Rattle.ft_syntax.proofs.table.Terms.has_one_number_each.Goals as goal

pub returns : goal.returns
returns c = subst AreDifferent c.self.view_is c.self.invariant.different
