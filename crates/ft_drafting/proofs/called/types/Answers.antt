use Rattle.ft_drafting.proofs.Bounded.{type_told}
use Rattle.ft_drafting.proofs.called.types.Goals as goal

pub returns-clause-told : goal.returns-clause-told
returns-clause-told c = type_told c.args.k.now c.boundary_type.new.k c.args.at c.boundary_type.result c.halted_boundary.result c.boundary_type.ensures.answers c.boundary_type.ensures.boundary c.halted_boundary.ensures
