use Rattle.ft_drafting.proofs.Bounded.{types_told}
use Rattle.ft_drafting.proofs.called.type_equations.Goals as goal

pub returns-clause-told : goal.returns-clause-told
returns-clause-told c = types_told c.args.k.now c.boundary_eq_type.new.k c.args.at c.args.left c.args.right c.boundary_eq_type.result c.halted_boundary.result c.requires.theses.0 c.requires.theses.1 c.boundary_eq_type.ensures.answers c.boundary_eq_type.ensures.boundary c.halted_boundary.ensures
