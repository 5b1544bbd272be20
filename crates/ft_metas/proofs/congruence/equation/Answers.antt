use Rattle.ft_metas.proofs.Sides.{no_object}
use Rattle.ft_metas.proofs.congruence.equation.Goals as goal

pub unreachable-requires : goal.unreachable-requires
unreachable-requires c = no_object c.args.goal.now c.requires c.in_default.not-Ty c.in_default.not-Tm
