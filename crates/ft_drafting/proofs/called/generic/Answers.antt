use Rattle.ft_drafting.proofs.BoundInTurn.{generic_told}
use Rattle.ft_drafting.proofs.called.generic.Goals as goal

pub returns : goal.returns
returns c = record { told = generic_told c.args.k.now c.generic.new.k c.args.at c.args.m c.generic.result c.halted.result c.terms-terms.ensures.good c.requires c.generic.ensures.answers c.generic.ensures.thesis c.halted.ensures }
