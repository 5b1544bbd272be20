use Rattle.std.proofs.Common.{◌∙◌, sym, ap, take, cond, true, Some, None}
use Rattle.ft_check.proofs.StepKinds.{rule_is}
use Rattle.ft_check.proofs.named.is_rule.Goals as goal

pub returns-then-has_rule_before : goal.returns-then-has_rule_before
returns-then-has_rule_before c = λ g.
    ap (λ b. cond b (Some true) None) (sym c.if-has_rule_before.true)
    ∙ rule_is (take c.args.i c.args.items.now.items) c.args.r c.has_rule_before.result g c.has_rule_before.ensures

pub returns-else-has_rule_before : goal.returns-else-has_rule_before
returns-else-has_rule_before c = λ g.
    ap (λ b. cond b (Some true) None) (sym c.if-has_rule_before.false)
    ∙ rule_is (take c.args.i c.args.items.now.items) c.args.r c.has_rule_before.result g c.has_rule_before.ensures
