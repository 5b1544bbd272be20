use Rattle.std.proofs.Common.{add-one, rules}
use Rattle.ft_syntax.proofs.Mentions.{none_mention_none, none_mention_some}
use Rattle.ft_syntax.proofs.table.Terms.+mentions.Goals as goal
use Rattle.ft_syntax.proofs.table.Terms.+mentions.Goals.{in-Some+else-mentions, in-None}

pub loop-a-preserved : goal.loop-a-preserved
loop-a-preserved t c = rw add-one (elim c.match-a.branch [
  | in-Some+else-mentions w ↦ none_mention_some c.args.self.now c.args.v c.loop-a.a-index w.in-Some.j c.listed-a-items.result.now c.a-item.result c.loop-a.invariant (search rules) c.a-item.is w.in-Some.is (search rules)
  | in-None w ↦ none_mention_none c.args.self.now c.args.v c.loop-a.a-index c.listed-a-items.result.now c.a-item.result c.loop-a.invariant (search rules) c.a-item.is w.in-None.is
])
