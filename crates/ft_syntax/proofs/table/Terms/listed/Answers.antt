use Rattle.ft_syntax.proofs.Seen.{arguments_seen}
use Rattle.ft_syntax.proofs.table.Terms.listed.Goals as goal

pub returns : goal.returns
returns c =
    arguments_seen c.args.self.now c.self.inside.parts.items c.self.inside.rows.items c.args.e c.place.result c.index-row.result.now c.self.view_is c.self.invariant.good c.requires c.place.ensures c.index-row.ensures
    c.deref.result.now c.deref.ensures.value
