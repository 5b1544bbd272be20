use Rattle.std.proofs.Common.{◌≡◌, subst}
use Rattle.std.specs.Prelude.{IfOk}
use Rattle.ft_reference.specs.Refusals.{AllSmall, claim_expressions}
use Rattle.ft_judge.specs.Meaning.{goal_in}
use Rattle.ft_apply.specs.Outcomes.{SmallOr}
use Rattle.ft_apply.specs.Instances.{goal_at}
use Rattle.ft_apply.proofs.RuleLines.{IsRuleOf, rule_there}
use Rattle.ft_apply.proofs.Concluded.{conclusion_read}
use Rattle.ft_apply.proofs.applying.conclusion.Goals as goal

pub boundary_at-requires : goal.boundary_at-requires
boundary_at-requires c =
    let x = c.rule.result.now in
    let R : IsRuleOf c.args.k.now.items c.args.r x.premises x.conclusion = rule_there c.args.k.now.items c.args.r (x.name, x.premises, x.conclusion) c.rule.ensures.good c.rule.ensures.rule in
    R.boundary

pub returns-clause-goal : goal.returns-clause-goal
returns-clause-goal c =
    let s = c.args.k.now in
    let x = c.rule.result.now in
    let R : IsRuleOf s.items c.args.r x.premises x.conclusion = rule_there s.items c.args.r (x.name, x.premises, x.conclusion) c.rule.ensures.good c.rule.ensures.rule in
    subst (λ g. IfOk c.put_goal.result (λ r. goal_in c.put_goal.new.k.trees r ≡ goal_at s.trees c.args.i.now.pairs g)) (conclusion_read s c.args.r x.premises x.conclusion c.boundary_at.result.now R c.boundary_at.ensures.boundary) c.put_goal.ensures.goal

pub returns-clause-small : goal.returns-clause-small
returns-clause-small c =
    let s = c.args.k.now in
    let x = c.rule.result.now in
    let R : IsRuleOf s.items c.args.r x.premises x.conclusion = rule_there s.items c.args.r (x.name, x.premises, x.conclusion) c.rule.ensures.good c.rule.ensures.rule in
    subst (λ g. SmallOr (AllSmall (claim_expressions (goal_at s.trees c.args.i.now.pairs g))) c.put_goal.result) (conclusion_read s c.args.r x.premises x.conclusion c.boundary_at.result.now R c.boundary_at.ensures.boundary) c.put_goal.ensures.small
