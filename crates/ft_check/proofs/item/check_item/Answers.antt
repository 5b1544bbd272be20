use Rattle.ft_check.proofs.item.check_item.Goals as goal

pub returns-in_default : goal.returns-in_default
returns-in_default c = λ x h g. c.check_without_step.ensures x h g
