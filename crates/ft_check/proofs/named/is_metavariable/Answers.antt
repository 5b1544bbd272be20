use Rattle.std.proofs.Common.{◌∙◌, sym, take, None}
use Rattle.ft_check.proofs.StepKinds.{metavariable_is}
use Rattle.ft_check.proofs.named.is_metavariable.Goals as goal

pub returns-in-None : goal.returns-in-None
returns-in-None c = λ g. metavariable_is (take c.args.i c.args.items.now.items) c.args.m None g (sym c.in-None.is ∙ c.metavariable_before.ensures)

pub returns-in-Some : goal.returns-in-Some
returns-in-Some c = λ g. metavariable_is (take c.args.i c.args.items.now.items) c.args.m _ g (sym c.in-Some.is ∙ c.metavariable_before.ensures)
