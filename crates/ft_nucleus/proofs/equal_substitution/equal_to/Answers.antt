use Rattle.ft_nucleus.proofs.Equating.{no_other}
use Rattle.ft_nucleus.proofs.equal_substitution.equal_to.Goals as goal

pub unreachable-requires : goal.unreachable-requires
unreachable-requires c = no_other c.args.form.now c.requires c.in_default.not-Ty c.in_default.not-Tm
