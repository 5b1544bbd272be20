use Rattle.ft_syntax.proofs.Seen.{row_seen}
use Rattle.ft_syntax.proofs.table.Terms.node.Goals as goal

pub returns-clause-small : goal.returns-clause-small
returns-clause-small c =
    (row_seen c.args.self.now c.self.inside.parts.items c.self.inside.rows.items c.args.e c.place.result c.index.result.now c.self.view_is c.self.invariant.good c.requires c.place.ensures c.index.ensures).small
