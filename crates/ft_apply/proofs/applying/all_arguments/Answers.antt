use Rattle.std.proofs.Common.{◌≡◌, ◌≢◌, ◌∙◌, length, subst, sym, ap}
use Rattle.ft_items.specs.Store.{metavariables_in}
use Rattle.ft_reference.specs.Checks.{all_argument_checks}
use Rattle.ft_syntax.specs.Table.{AllBelow}
use Rattle.ft_judge.specs.declared.fault.Refusal.TheVariants.{ArgumentCount}
use Rattle.ft_judge.specs.declared.fault.Fault.TheVariants.{Refused}
use Rattle.ft_apply.specs.Named.{statements_of, premises_in, rule_of}
use Rattle.ft_apply.specs.Outcomes.{Stops, Asks, given_checks}
use Rattle.ft_apply.proofs.RuleLines.{IsRuleOf, rule_there}
use Rattle.ft_apply.proofs.Concluded.{all_counted, all_asked, all_same}
use Rattle.ft_apply.proofs.applying.all_arguments.Goals as goal

pub returns-then-args-wanted-clause-checks : goal.returns-then-args-wanted-clause-checks
returns-then-args-wanted-clause-checks c =
    let s = c.args.k.now in
    let js = c.args.args.now in
    let x = c.rule.result.now in
    let R : IsRuleOf s.items c.args.r x.premises x.conclusion = rule_there s.items c.args.r (x.name, x.premises, x.conclusion) c.rule.ensures.good c.rule.ensures.rule in
    let e : c.items-wanted.result.now ≡ x.premises = c.items-wanted.ensures ∙ c.in_ok-premises.ensures in
    let n : length js ≢ length x.premises = subst (λ ms. length js ≢ length ms) e c.if-args-wanted.true in
    subst (Stops s.trees (all_argument_checks (rule_of s.items c.args.r).premises (statements_of s.items js))) (ap (λ ms. Refused (ArgumentCount (length js) (length ms))) (sym e) ∙ sym c.counts.ensures)
    (all_counted s.trees s.items c.args.r x.premises x.conclusion js R n)

pub arguments-requires-clause-premises : goal.arguments-requires-clause-premises
arguments-requires-clause-premises c =
    let s = c.args.k.now in
    let x = c.rule.result.now in
    let R : IsRuleOf s.items c.args.r x.premises x.conclusion = rule_there s.items c.args.r (x.name, x.premises, x.conclusion) c.rule.ensures.good c.rule.ensures.rule in
    subst (AllBelow (length (metavariables_in s.items))) (sym (c.items.ensures ∙ c.in_ok-premises.ensures)) R.premises_below

pub returns-clause-checks : goal.returns-clause-checks
returns-clause-checks c =
    let s = c.args.k.now in
    let t = c.arguments.new.k in
    let js = c.args.args.now in
    let x = c.rule.result.now in
    let R : IsRuleOf s.items c.args.r x.premises x.conclusion = rule_there s.items c.args.r (x.name, x.premises, x.conclusion) c.rule.ensures.good c.rule.ensures.rule in
    let e : c.items.result.now ≡ x.premises = c.items.ensures ∙ c.in_ok-premises.ensures in
    let n : length js ≡ length x.premises = subst (λ ms. length js ≡ length ms) (c.items-wanted.ensures ∙ c.in_ok-premises.ensures) c.if-args-wanted.false in
    all_same t.trees (all_argument_checks (rule_of s.items c.args.r).premises (statements_of s.items js)) (given_checks (premises_in s.items x.premises) (statements_of s.items js)) c.arguments.result
    (all_asked t.trees s.items c.args.r x.premises x.conclusion js R n)
    (subst (λ ms. Asks t.trees (given_checks (premises_in s.items ms) (statements_of s.items js)) c.arguments.result) e c.arguments.ensures.checks)
