use Rattle.ft_calling.proofs.VariablesCalled.{substituted_told}
use Rattle.ft_calling.proofs.binding.substitute_judgement.Goals as goal

pub returns : goal.returns
returns c = record { told = substituted_told c.args.k.now c.substitute.new.k c.args.at c.args.j c.args.t c.substitute.result c.halted.result c.requires.judgement c.requires.term c.substitute.ensures.answers c.substitute.ensures.thesis c.halted.ensures }
