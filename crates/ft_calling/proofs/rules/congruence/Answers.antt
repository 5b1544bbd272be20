use Rattle.ft_calling.proofs.RulesCalled.{congruence_told}
use Rattle.ft_calling.proofs.rules.congruence.Goals as goal

pub returns : goal.returns
returns c = record { told = congruence_told c.args.k.now c.congruence.new.k c.args.at c.args.rule c.args.args.now c.args.equations.now c.congruence.result c.halted.result c.terms-terms.ensures.good c.requires.rule c.requires.arguments c.requires.equations c.congruence.ensures.answers c.congruence.ensures.thesis c.halted.ensures }
