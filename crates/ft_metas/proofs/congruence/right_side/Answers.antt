use Rattle.ft_metas.proofs.Sides.{is_equation, right_read}
use Rattle.ft_metas.proofs.congruence.right_side.Goals as goal

pub unreachable-requires : goal.unreachable-requires
unreachable-requires c = is_equation c.args.k.now c.args.e c.thesis_of.result.now c.thesis_of.ensures.thesis c.requires.equation c.in_default.not-EqTm

pub returns-clause-side : goal.returns-clause-side
returns-clause-side c = right_read c.args.k.now c.args.e _ c.in-EqTm.right _ c.thesis_of.result.now c.thesis_of.ensures.thesis c.in-EqTm.is
