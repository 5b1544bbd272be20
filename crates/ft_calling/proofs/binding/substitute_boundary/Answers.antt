use Rattle.ft_calling.proofs.VariablesCalled.{substituted_boundary_told}
use Rattle.ft_calling.proofs.binding.substitute_boundary.Goals as goal

pub returns : goal.returns
returns c = record { told = substituted_boundary_told c.args.k.now c.substitute_boundary.new.k c.args.at c.args.b c.args.t c.substitute_boundary.result c.halted_boundary.result c.requires.boundary c.requires.term c.substitute_boundary.ensures.answers c.substitute_boundary.ensures.boundary c.halted_boundary.ensures }
