use Rattle.std.proofs.Common.{rules}
use Rattle.ft_judge.proofs.Filling.{filling}
use Rattle.ft_judge.proofs.parts.fill.Goals as goal

pub returns-clause-meaning : goal.returns-clause-meaning
returns-clause-meaning c = filling c.args.t.now c.args.b.now c.args.head.now.body (record { domains = c.in_ok-domains.domains; form = c.filled_goal-form.result }) c.requires (search rules)
