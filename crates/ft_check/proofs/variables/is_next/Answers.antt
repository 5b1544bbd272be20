use Rattle.std.proofs.Common.{◌∙◌, ap, sym, take}
use Rattle.ft_check.proofs.Reasons.{is_below, next_is}
use Rattle.ft_check.proofs.variables.is_next.Goals as goal

pub returns-in-Some : goal.returns-in-Some
returns-in-Some c = λ g. sym (ap (is_below c.args.v) c.in-Some.is) ∙ next_is (take c.args.i c.args.items.now.items) c.args.v c.greatest_before.result c.greatest_before.ensures g

pub returns-in-None : goal.returns-in-None
returns-in-None c = λ g. sym (ap (is_below c.args.v) c.in-None.is) ∙ next_is (take c.args.i c.args.items.now.items) c.args.v c.greatest_before.result c.greatest_before.ensures g
