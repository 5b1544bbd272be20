use Rattle.std.proofs.Common.{◌≡◌, ◌<◌, ◌≤◌, length, get_or, subst, sym}
use Rattle.ft_items.specs.Store.{metavariables_in}
use Rattle.ft_syntax.specs.Table.{AllBelow}
use Rattle.ft_syntax.specs.Laws.{one_below}
use Rattle.ft_apply.specs.Named.{rule_of, boundary_after}
use Rattle.ft_apply.proofs.RuleLines.{IsRuleOf, rule_there, met_boundary}
use Rattle.ft_apply.proofs.After.{after_premise, after_conclusion, copied}
use Rattle.ft_apply.proofs.applying.boundary_after.Goals as goal

pub met-met-requires : goal.met-met-requires
met-met-requires c =
    let x = c.rule-rule.result.now in
    let R : IsRuleOf c.args.k.now.items c.args.r x.premises x.conclusion = rule_there c.args.k.now.items c.args.r (x.name, x.premises, x.conclusion) c.rule-rule.ensures.good c.rule-rule.ensures.rule in
    one_below (length (metavariables_in c.args.k.now.items)) c.args.count c.index-premises-count.result c.items-premises.result.now (subst (AllBelow (length (metavariables_in c.args.k.now.items))) (sym c.items-premises.ensures) R.premises_below) c.if-count-premises.true c.index-premises-count.is

pub boundary_at-requires : goal.boundary_at-requires
boundary_at-requires c = met_boundary c.args.k.now c.index-premises-count.result (c.met-met.result.now.name, c.met-met.result.now.boundary) c.met-met.ensures.good c.met-met.ensures.metavariable

pub boundary_at-requires-2 : goal.boundary_at-requires-2
boundary_at-requires-2 c =
    let x = c.rule-rule.result.now in
    let R : IsRuleOf c.args.k.now.items c.args.r x.premises x.conclusion = rule_there c.args.k.now.items c.args.r (x.name, x.premises, x.conclusion) c.rule-rule.ensures.good c.rule-rule.ensures.rule in
    R.boundary

pub returns-then-count-premises-clause-boundary : goal.returns-then-count-premises-clause-boundary
returns-then-count-premises-clause-boundary c =
    let x = c.rule-rule.result.now in
    let y = c.met-met.result.now in
    let R : IsRuleOf c.args.k.now.items c.args.r x.premises x.conclusion = rule_there c.args.k.now.items c.args.r (x.name, x.premises, x.conclusion) c.rule-rule.ensures.good c.rule-rule.ensures.rule in
    let l : c.args.count < length x.premises = subst (λ ms. c.args.count < length ms) c.items-premises.ensures c.if-count-premises.true in
    copied c.args.k.now.trees c.copy.result c.boundary_at.result.now (boundary_after (rule_of c.args.k.now.items c.args.r) c.args.count) c.copy.ensures
    (after_premise c.args.k.now c.args.r x.premises x.conclusion c.args.count c.index-premises-count.result (y.name, y.boundary) c.boundary_at.result.now R l
    (subst (λ ms. c.index-premises-count.result ≡ get_or ms c.args.count c.index-premises-count.result) c.items-premises.ensures c.index-premises-count.is) c.met-met.ensures.metavariable c.boundary_at.ensures.boundary)

pub returns-clause-boundary : goal.returns-clause-boundary
returns-clause-boundary c =
    let x = c.rule-rule.result.now in
    let R : IsRuleOf c.args.k.now.items c.args.r x.premises x.conclusion = rule_there c.args.k.now.items c.args.r (x.name, x.premises, x.conclusion) c.rule-rule.ensures.good c.rule-rule.ensures.rule in
    copied c.args.k.now.trees c.copy-2.result c.boundary_at-2.result.now (boundary_after (rule_of c.args.k.now.items c.args.r) c.args.count) c.copy-2.ensures
    (after_conclusion c.args.k.now c.args.r x.premises x.conclusion c.args.count c.boundary_at-2.result.now R (subst (λ ms. length ms ≤ c.args.count) c.items-premises.ensures c.if-count-premises.false) c.boundary_at-2.ensures.boundary)
