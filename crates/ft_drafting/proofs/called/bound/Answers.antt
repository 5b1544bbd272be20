use Rattle.ft_drafting.proofs.BoundInTurn.{bound_told}
use Rattle.ft_drafting.proofs.called.bound.Goals as goal

pub returns : goal.returns
returns c = record { told = bound_told c.args.k.now c.abstract_boundary.new.k c.args.at c.args.y c.args.b c.abstract_boundary.result c.halted_boundary.result c.terms-terms.ensures.good c.requires.variable c.requires.boundary c.abstract_boundary.ensures.answers c.abstract_boundary.ensures.boundary c.halted_boundary.ensures }
