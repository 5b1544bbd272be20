use Rattle.std.proofs.Common.{◌∙◌, ap, sym}
use Rattle.ft_check.proofs.Before.{is_not_before}
use Rattle.ft_check.proofs.Reasons.{lacks_before}
use Rattle.ft_check.proofs.variables.lacks_variable.Goals as goal

pub returns-in-Some : goal.returns-in-Some
returns-in-Some c = sym (ap (is_not_before c.args.i) c.in-Some.is) ∙ lacks_before c.args.items.now.items c.args.i c.args.v c.var_place.result c.var_place.ensures

pub returns-in-None : goal.returns-in-None
returns-in-None c = sym (ap (is_not_before c.args.i) c.in-None.is) ∙ lacks_before c.args.items.now.items c.args.i c.args.v c.var_place.result c.var_place.ensures
