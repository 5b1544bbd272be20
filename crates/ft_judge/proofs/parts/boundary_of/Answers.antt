use Rattle.std.proofs.Common.{rules}
use Rattle.ft_judge.proofs.Filling.{boundary_taken}
use Rattle.ft_judge.proofs.parts.boundary_of.Goals as goal

pub returns-clause-meaning : goal.returns-clause-meaning
returns-clause-meaning c = λ ts. boundary_taken ts c.args.t.now (record { domains = c.in_ok-domains.domains; goal = c.goal_of-goal.result }) (search rules)
