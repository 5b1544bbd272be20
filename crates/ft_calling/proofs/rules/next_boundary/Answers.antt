use Rattle.ft_calling.proofs.RulesCalled.{next_told}
use Rattle.ft_calling.proofs.rules.next_boundary.Goals as goal

pub returns : goal.returns
returns c = record { told = next_told c.args.k.now c.next_boundary.new.k c.args.at c.args.rule c.args.args.now c.next_boundary.result c.halted_boundary.result c.terms-terms.ensures.good c.requires.rule c.requires.arguments c.next_boundary.ensures.answers c.next_boundary.ensures.boundary c.halted_boundary.ensures }
