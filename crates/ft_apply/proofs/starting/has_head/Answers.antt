use Rattle.std.proofs.Common.{◌∙◌}
use Rattle.ft_apply.specs.Named.{entry_of}
use Rattle.ft_apply.proofs.Starts.{head_told}
use Rattle.ft_apply.proofs.starting.has_head.Goals as goal

pub returns : goal.returns
returns c = c.is_some.ensures ∙ head_told c.args.k.now.trees c.head.result (entry_of c.args.k.now.items c.args.j).statement c.head.ensures.head
