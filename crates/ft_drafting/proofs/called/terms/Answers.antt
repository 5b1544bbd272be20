use Rattle.ft_drafting.proofs.Bounded.{term_told}
use Rattle.ft_drafting.proofs.called.terms.Goals as goal

pub returns-clause-told : goal.returns-clause-told
returns-clause-told c = term_told c.args.k.now c.boundary_term.new.k c.args.at c.args.ty c.boundary_term.result c.halted_boundary.result c.requires c.boundary_term.ensures.answers c.boundary_term.ensures.boundary c.halted_boundary.ensures
