use Rattle.std.proofs.Common.{length}
use Rattle.ft_apply.proofs.Naming.{head_is, head_below}
use Rattle.ft_apply.proofs.named.head.Goals as goal

pub returns-clause-head : goal.returns-clause-head
returns-clause-head c = head_is c.args.k.now c.args.j c.thesis_of.result.now c.head_of.result c.thesis_of.ensures.thesis c.head_of.ensures.head (c.head_of.ensures.meaning c.args.k.now.trees)

pub returns-clause-below : goal.returns-clause-below
returns-clause-below c = head_below (length c.args.k.now.trees) c.thesis_of.result.now c.head_of.result c.head_of.ensures.head c.thesis_of.ensures.below
