use Rattle.ft_calling.proofs.WordsCalled.{argument_told}
use Rattle.ft_calling.proofs.words.argument.Goals as goal

pub returns : goal.returns
returns c = record { told = argument_told c.args.k.now c.argument.new.k c.args.at c.args.place c.args.j c.argument.result c.halted.result c.requires c.argument.ensures.answers c.argument.ensures.thesis c.halted.ensures }
