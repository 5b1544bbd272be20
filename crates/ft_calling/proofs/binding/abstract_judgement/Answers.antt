use Rattle.ft_calling.proofs.VariablesCalled.{bound_told}
use Rattle.ft_calling.proofs.binding.abstract_judgement.Goals as goal

pub returns : goal.returns
returns c = record { told = bound_told c.args.k.now c.abstract_var.new.k c.args.at c.args.v c.args.j c.abstract_var.result c.halted.result c.terms-terms.ensures.good c.requires.variable c.requires.judgement c.abstract_var.ensures.answers c.abstract_var.ensures.thesis c.halted.ensures }
