use Rattle.std.proofs.Common.{◌≡◌, ◌∙◌, ◌<◌, ◌≤◌, None, length, take, subst, sym, ap}
use Rattle.ft_items.specs.Equal.{heads}
use Rattle.ft_items.specs.Store.{metavariables_in}
use Rattle.ft_theory.specs.Rules.{instance_of}
use Rattle.ft_reference.specs.Refusals.{first_refusal}
use Rattle.ft_reference.specs.Checks.{instance_checks}
use Rattle.ft_syntax.specs.Table.{AllBelow}
use Rattle.ft_syntax.specs.Instances.{instance_in}
use Rattle.ft_judge.specs.declared.fault.Refusal.TheVariants.{ArgumentCount}
use Rattle.ft_judge.specs.declared.fault.Fault.TheVariants.{Refused}
use Rattle.ft_apply.specs.Named.{statements_of, premises_in, rule_of}
use Rattle.ft_apply.specs.Outcomes.{Stops, given_checks}
use Rattle.ft_apply.proofs.RuleLines.{IsRuleOf, rule_there}
use Rattle.ft_apply.proofs.Instancing.{taken_below, next_count, next_misfit, next_given, next_big}
use Rattle.ft_apply.proofs.applying.next_formed.Goals as goal

pub returns-then-count-wanted-clause-formed : goal.returns-then-count-wanted-clause-formed
returns-then-count-wanted-clause-formed c =
    let s = c.args.k.now in
    let js = c.args.args.now in
    let x = c.rule.result.now in
    let R : IsRuleOf s.items c.args.r x.premises x.conclusion = rule_there s.items c.args.r (x.name, x.premises, x.conclusion) c.rule.ensures.good c.rule.ensures.rule in
    let e : c.items-wanted.result.now ≡ x.premises = c.items-wanted.ensures ∙ c.in_ok-premises.ensures in
    let l : length x.premises < length js = subst (λ ms. length ms < length js) e c.if-count-wanted.true in
    subst (Stops s.trees (instance_checks (rule_of s.items c.args.r) (statements_of s.items js))) (ap (λ ms. Refused (ArgumentCount (length js) (length ms))) (sym e) ∙ sym c.counts.ensures)
    (next_count s.trees s.items c.args.r x.premises x.conclusion js R l)

pub arguments-requires-clause-premises : goal.arguments-requires-clause-premises
arguments-requires-clause-premises c =
    let s = c.args.k.now in
    let x = c.rule.result.now in
    let R : IsRuleOf s.items c.args.r x.premises x.conclusion = rule_there s.items c.args.r (x.name, x.premises, x.conclusion) c.rule.ensures.good c.rule.ensures.rule in
    let e : c.items.result.now ≡ x.premises = c.items.ensures ∙ c.in_ok-premises.ensures in
    taken_below (length (metavariables_in s.items)) (length c.args.args.now) c.items.result.now (subst (AllBelow (length (metavariables_in s.items))) (sym e) R.premises_below)

pub returns-in-Err-clause-formed : goal.returns-in-Err-clause-formed
returns-in-Err-clause-formed c =
    let s = c.args.k.now in
    let t = c.arguments.new.k in
    let js = c.args.args.now in
    let x = c.rule.result.now in
    let R : IsRuleOf s.items c.args.r x.premises x.conclusion = rule_there s.items c.args.r (x.name, x.premises, x.conclusion) c.rule.ensures.good c.rule.ensures.rule in
    let e : c.items.result.now ≡ x.premises = c.items.ensures ∙ c.in_ok-premises.ensures in
    let l : length js ≤ length x.premises = subst (λ ms. length js ≤ length ms) (c.items-wanted.ensures ∙ c.in_ok-premises.ensures) c.if-count-wanted.false in
    next_misfit t.trees s.items c.args.r x.premises x.conclusion js c.in-Err.fault R l
    (subst (λ ms. Stops t.trees (given_checks (premises_in s.items (take (length js) ms)) (statements_of s.items js)) c.in-Err.fault) e c.in-Err.ensures.checks)

pub returns-in-Ok-put_boundary-clause-formed : goal.returns-in-Ok-put_boundary-clause-formed
returns-in-Ok-put_boundary-clause-formed c =
    let s = c.args.k.now in
    let t = c.arguments.new.k in
    let js = c.args.args.now in
    let x = c.rule.result.now in
    let ps = c.in-Ok.given.instance.pairs in
    let R : IsRuleOf s.items c.args.r x.premises x.conclusion = rule_there s.items c.args.r (x.name, x.premises, x.conclusion) c.rule.ensures.good c.rule.ensures.rule in
    let e : c.items.result.now ≡ x.premises = c.items.ensures ∙ c.in_ok-premises.ensures in
    let l : length js ≤ length x.premises = subst (λ ms. length js ≤ length ms) (c.items-wanted.ensures ∙ c.in_ok-premises.ensures) c.if-count-wanted.false in
    next_given s t c.put_boundary.new.k c.args.r x.premises x.conclusion js ps c.in_ok-next.next c.in-Ok-put_boundary.boundary R c.requires.arguments l c.in-Ok.ensures.stays.0
    (subst (λ ms. first_refusal (given_checks (premises_in s.items (take (length js) ms)) (statements_of s.items js)) ≡ None) e c.in-Ok.ensures.checks)
    (subst (λ ms. instance_in t.trees ps ≡ instance_of (premises_in s.items (take (length js) ms)) (heads (statements_of s.items js))) e c.in-Ok.ensures.instance)
    c.in_ok-next.ensures.boundary c.in-Ok-put_boundary.ensures.boundary c.in-Ok-put_boundary.ensures.small

pub returns-clause-formed : goal.returns-clause-formed
returns-clause-formed c =
    let s = c.args.k.now in
    let t = c.arguments.new.k in
    let u = c.put_boundary.new.k in
    let js = c.args.args.now in
    let x = c.rule.result.now in
    let ps = c.in-Ok.given.instance.pairs in
    let R : IsRuleOf s.items c.args.r x.premises x.conclusion = rule_there s.items c.args.r (x.name, x.premises, x.conclusion) c.rule.ensures.good c.rule.ensures.rule in
    let e : c.items.result.now ≡ x.premises = c.items.ensures ∙ c.in_ok-premises.ensures in
    let l : length js ≤ length x.premises = subst (λ ms. length js ≤ length ms) (c.items-wanted.ensures ∙ c.in_ok-premises.ensures) c.if-count-wanted.false in
    subst (Stops u.trees (instance_checks (rule_of s.items c.args.r) (statements_of s.items js))) (sym c.from.ensures)
    (next_big s t u c.args.r x.premises x.conclusion js ps c.in_ok-next.next c.in-Err-put_boundary.fault R c.requires.arguments l c.in-Ok.ensures.stays.0
    (subst (λ ms. first_refusal (given_checks (premises_in s.items (take (length js) ms)) (statements_of s.items js)) ≡ None) e c.in-Ok.ensures.checks)
    (subst (λ ms. instance_in t.trees ps ≡ instance_of (premises_in s.items (take (length js) ms)) (heads (statements_of s.items js))) e c.in-Ok.ensures.instance)
    c.in_ok-next.ensures.boundary c.in-Err-put_boundary.ensures.small)
