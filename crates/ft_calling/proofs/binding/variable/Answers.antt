use Rattle.ft_calling.proofs.VariablesCalled.{term_told}
use Rattle.ft_calling.proofs.binding.variable.Goals as goal

pub returns : goal.returns
returns c = record { told = term_told c.args.k.now c.variable.new.k c.args.at c.args.v c.variable.result c.halted.result c.terms-terms.ensures.good c.requires c.variable.ensures.answers c.variable.ensures.thesis c.halted.ensures }
