use Rattle.ft_drafting.proofs.Bounded.{terms_told}
use Rattle.ft_drafting.proofs.called.term_equations.Goals as goal

pub returns-clause-told : goal.returns-clause-told
returns-clause-told c = terms_told c.args.k.now c.boundary_eq_term.new.k c.args.at c.args.ty c.args.left c.args.right c.boundary_eq_term.result c.halted_boundary.result c.requires.ty c.requires.sides.0 c.requires.sides.1 c.boundary_eq_term.ensures.answers c.boundary_eq_term.ensures.boundary c.halted_boundary.ensures
