use Rattle.ft_check.proofs.Compares.{same_pushed}
use Rattle.ft_check.proofs.compare.push.Goals as goal

pub returns-clause-same : goal.returns-clause-same
returns-clause-same c = λ ts j. same_pushed ts j c.args.list.now.items c.push.new.self.items _ c.in_ok-push.ensures.items
