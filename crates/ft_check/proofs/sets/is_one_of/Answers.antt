use Rattle.ft_check.proofs.OfSets.{no_variable}
use Rattle.ft_check.proofs.sets.is_one_of.Goals as goal

pub returns-in-Var : goal.returns-in-Var
returns-in-Var c = no_variable c.args.a c.in-Var.field-0 c.args.ms.now c.in-Var.is
