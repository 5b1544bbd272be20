use Rattle.ft_calling.proofs.RulesCalled.{applied_told}
use Rattle.ft_calling.proofs.rules.apply.Goals as goal

pub returns : goal.returns
returns c = record { told = applied_told c.args.k.now c.apply.new.k c.args.at c.args.rule c.args.args.now c.apply.result c.halted.result c.terms-terms.ensures.good c.requires.rule c.requires.arguments c.apply.ensures.answers c.apply.ensures.thesis c.halted.ensures }
