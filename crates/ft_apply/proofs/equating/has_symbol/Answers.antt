use Rattle.std.proofs.Common.{◌∙◌, sym, ap}
use Rattle.ft_items.specs.Equal.{is_object_goal}
use Rattle.ft_judge.specs.Meaning.{goal_in}
use Rattle.ft_apply.proofs.RuleLines.{IsRuleOf, rule_there}
use Rattle.ft_apply.proofs.Congruences.{symbol_told}
use Rattle.ft_apply.proofs.equating.has_symbol.Goals as goal

pub boundary_at-requires : goal.boundary_at-requires
boundary_at-requires c =
    let x = c.rule.result.now in
    let R : IsRuleOf c.args.k.now.items c.args.r x.premises x.conclusion = rule_there c.args.k.now.items c.args.r (x.name, x.premises, x.conclusion) c.rule.ensures.good c.rule.ensures.rule in
    R.boundary

pub returns-in-Ty : goal.returns-in-Ty
returns-in-Ty c =
    let s = c.args.k.now in
    let x = c.rule.result.now in
    let R : IsRuleOf s.items c.args.r x.premises x.conclusion = rule_there s.items c.args.r (x.name, x.premises, x.conclusion) c.rule.ensures.good c.rule.ensures.rule in
    ap (λ g. is_object_goal (goal_in s.trees g)) (sym c.in-Ty.is) ∙ symbol_told s c.args.r x.premises x.conclusion c.boundary_at.result.now R c.boundary_at.ensures.boundary

pub returns-in-Tm : goal.returns-in-Tm
returns-in-Tm c =
    let s = c.args.k.now in
    let x = c.rule.result.now in
    let R : IsRuleOf s.items c.args.r x.premises x.conclusion = rule_there s.items c.args.r (x.name, x.premises, x.conclusion) c.rule.ensures.good c.rule.ensures.rule in
    ap (λ g. is_object_goal (goal_in s.trees g)) (sym c.in-Tm.is) ∙ symbol_told s c.args.r x.premises x.conclusion c.boundary_at.result.now R c.boundary_at.ensures.boundary

pub returns-in-EqTy : goal.returns-in-EqTy
returns-in-EqTy c =
    let s = c.args.k.now in
    let x = c.rule.result.now in
    let R : IsRuleOf s.items c.args.r x.premises x.conclusion = rule_there s.items c.args.r (x.name, x.premises, x.conclusion) c.rule.ensures.good c.rule.ensures.rule in
    ap (λ g. is_object_goal (goal_in s.trees g)) (sym c.in-EqTy.is) ∙ symbol_told s c.args.r x.premises x.conclusion c.boundary_at.result.now R c.boundary_at.ensures.boundary

pub returns-in-EqTm : goal.returns-in-EqTm
returns-in-EqTm c =
    let s = c.args.k.now in
    let x = c.rule.result.now in
    let R : IsRuleOf s.items c.args.r x.premises x.conclusion = rule_there s.items c.args.r (x.name, x.premises, x.conclusion) c.rule.ensures.good c.rule.ensures.rule in
    ap (λ g. is_object_goal (goal_in s.trees g)) (sym c.in-EqTm.is) ∙ symbol_told s c.args.r x.premises x.conclusion c.boundary_at.result.now R c.boundary_at.ensures.boundary
