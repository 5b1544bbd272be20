use Rattle.std.proofs.Common.{◌∙◌, sym, ap, take, cond, true, Some, None}
use Rattle.ft_check.proofs.StepKinds.{variable_is}
use Rattle.ft_check.proofs.named.is_variable.Goals as goal

pub returns-then-lacks_variable : goal.returns-then-lacks_variable
returns-then-lacks_variable c = λ g.
    ap (λ b. cond b None (Some true)) (sym c.if-lacks_variable.true ∙ c.lacks_variable.ensures)
    ∙ variable_is (take c.args.i c.args.items.now.items) c.args.v g

pub returns-else-lacks_variable : goal.returns-else-lacks_variable
returns-else-lacks_variable c = λ g.
    ap (λ b. cond b None (Some true)) (sym c.if-lacks_variable.false ∙ c.lacks_variable.ensures)
    ∙ variable_is (take c.args.i c.args.items.now.items) c.args.v g
