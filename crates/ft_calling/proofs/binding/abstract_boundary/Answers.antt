use Rattle.ft_calling.proofs.VariablesCalled.{bound_boundary_told}
use Rattle.ft_calling.proofs.binding.abstract_boundary.Goals as goal

pub returns : goal.returns
returns c = record { told = bound_boundary_told c.args.k.now c.abstract_boundary.new.k c.args.at c.args.v c.args.b c.abstract_boundary.result c.halted_boundary.result c.terms-terms.ensures.good c.requires.variable c.requires.boundary c.abstract_boundary.ensures.answers c.abstract_boundary.ensures.boundary c.halted_boundary.ensures }
