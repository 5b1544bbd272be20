use Rattle.ft_calling.proofs.WordsCalled.{boundaryof_told}
use Rattle.ft_calling.proofs.words.boundaryof.Goals as goal

pub returns : goal.returns
returns c = record { told = boundaryof_told c.args.k.now c.boundary.new.k c.args.at c.args.j c.boundary.result c.halted_boundary.result c.requires c.boundary.ensures.answers c.boundary.ensures.boundary c.halted_boundary.ensures }
