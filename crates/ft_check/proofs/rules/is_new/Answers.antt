use Rattle.std.proofs.Common.{◌∙◌, ap, sym}
use Rattle.ft_check.proofs.Before.{is_not_before}
use Rattle.ft_check.proofs.Naming.{new_is}
use Rattle.ft_check.proofs.rules.is_new.Goals as goal

pub returns-in-Some : goal.returns-in-Some
returns-in-Some c = λ g. sym (ap (is_not_before c.args.i) c.in-Some.is) ∙ new_is c.args.items.now.items c.args.i c.args.name.now c.name_place.result c.name_place.ensures g

pub returns-in-None : goal.returns-in-None
returns-in-None c = λ g. sym (ap (is_not_before c.args.i) c.in-None.is) ∙ new_is c.args.items.now.items c.args.i c.args.name.now c.name_place.result c.name_place.ensures g
