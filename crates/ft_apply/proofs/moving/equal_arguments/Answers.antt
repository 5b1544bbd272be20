use Rattle.std.proofs.Common.{◌≡◌, ◌∙◌, ◌<◌, ◌≤◌, None, length, take, subst, sym, ap, ap₂}
use Rattle.std.specs.List.{zip}
use Rattle.ft_theory.specs.Rules.{instance_of}
use Rattle.ft_items.specs.Equal.{heads}
use Rattle.ft_items.specs.Store.{metavariables_in}
use Rattle.ft_reference.specs.Refusals.{first_refusal}
use Rattle.ft_syntax.specs.Table.{AllBelow}
use Rattle.ft_syntax.specs.Instances.{instance_in}
use Rattle.ft_judge.specs.declared.fault.Refusal.TheVariants.{ArgumentCount}
use Rattle.ft_judge.specs.declared.fault.Fault.TheVariants.{Refused}
use Rattle.ft_apply.specs.Named.{statements_of, premises_in}
use Rattle.ft_apply.specs.Outcomes.{Stops, given_checks}
use Rattle.ft_apply.specs.Equations.{equal_argument_checks_in, equation_checks_in}
use Rattle.ft_apply.proofs.RuleLines.{IsRuleOf, rule_there}
use Rattle.ft_apply.proofs.Fitted.{theses_stay, paired_below}
use Rattle.ft_apply.proofs.Instancing.{taken_below}
use Rattle.ft_apply.proofs.Moved.{equal_count, equal_misfit, equal_misstart, equal_passed, left_instance, right_instance}
use Rattle.ft_apply.proofs.moving.equal_arguments.Goals as goal

pub returns-then-count-wanted-clause-checks : goal.returns-then-count-wanted-clause-checks
returns-then-count-wanted-clause-checks c =
    let s = c.args.k.now in
    let js = c.args.args.now in
    let x = c.rule.result.now in
    let R : IsRuleOf s.items c.args.r x.premises x.conclusion = rule_there s.items c.args.r (x.name, x.premises, x.conclusion) c.rule.ensures.good c.rule.ensures.rule in
    let e : c.items-wanted.result.now ≡ x.premises = c.items-wanted.ensures ∙ c.in_ok-premises.ensures in
    let l : length x.premises ≤ length js = subst (λ ms. length ms ≤ length js) e c.if-count-wanted.true in
    subst (Stops s.trees (equal_argument_checks_in s.items c.args.r js c.args.equations.now)) (ap (λ ms. Refused (ArgumentCount (length js) (length ms))) (sym e) ∙ sym c.counts.ensures)
    (equal_count s.trees s.items c.args.r x.premises x.conclusion js c.args.equations.now R l)

pub arguments-requires-clause-premises : goal.arguments-requires-clause-premises
arguments-requires-clause-premises c =
    let s = c.args.k.now in
    let x = c.rule.result.now in
    let R : IsRuleOf s.items c.args.r x.premises x.conclusion = rule_there s.items c.args.r (x.name, x.premises, x.conclusion) c.rule.ensures.good c.rule.ensures.rule in
    let e : c.items.result.now ≡ x.premises = c.items.ensures ∙ c.in_ok-premises.ensures in
    taken_below (length (metavariables_in s.items)) (length c.args.args.now) c.items.result.now (subst (AllBelow (length (metavariables_in s.items))) (sym e) R.premises_below)

pub returns-in-Err-clause-checks : goal.returns-in-Err-clause-checks
returns-in-Err-clause-checks c =
    let s = c.args.k.now in
    let t = c.arguments.new.k in
    let js = c.args.args.now in
    let ks = c.args.equations.now in
    let x = c.rule.result.now in
    let R : IsRuleOf s.items c.args.r x.premises x.conclusion = rule_there s.items c.args.r (x.name, x.premises, x.conclusion) c.rule.ensures.good c.rule.ensures.rule in
    let e : c.items.result.now ≡ x.premises = c.items.ensures ∙ c.in_ok-premises.ensures in
    let l : length js < length x.premises = subst (λ ms. length js < length ms) (c.items-wanted.ensures ∙ c.in_ok-premises.ensures) c.if-count-wanted.false in
    equal_misfit t.trees s.items c.args.r x.premises x.conclusion js ks c.in-Err.fault R l
    (subst (λ ms. Stops t.trees (given_checks (premises_in s.items (take (length js) ms)) (statements_of s.items js)) c.in-Err.fault) e c.in-Err.ensures.checks)

pub right_heads-requires-clause-arguments : goal.right_heads-requires-clause-arguments
right_heads-requires-clause-arguments c = theses_stay c.args.k.now c.arguments.new.k c.args.args.now c.in-Ok.ensures.stays.0 c.requires.arguments

pub right_heads-requires-clause-equations : goal.right_heads-requires-clause-equations
right_heads-requires-clause-equations c = theses_stay c.args.k.now c.arguments.new.k c.args.equations.now c.in-Ok.ensures.stays.0 c.requires.equations

pub returns-in-Err-right_heads-clause-checks : goal.returns-in-Err-right_heads-clause-checks
returns-in-Err-right_heads-clause-checks c =
    let s = c.args.k.now in
    let t = c.arguments.new.k in
    let js = c.args.args.now in
    let ks = c.args.equations.now in
    let x = c.rule.result.now in
    let R : IsRuleOf s.items c.args.r x.premises x.conclusion = rule_there s.items c.args.r (x.name, x.premises, x.conclusion) c.rule.ensures.good c.rule.ensures.rule in
    let e : c.items.result.now ≡ x.premises = c.items.ensures ∙ c.in_ok-premises.ensures in
    let l : length js < length x.premises = subst (λ ms. length js < length ms) (c.items-wanted.ensures ∙ c.in_ok-premises.ensures) c.if-count-wanted.false in
    equal_misstart t.trees s.items c.args.r x.premises x.conclusion js ks c.in-Err-right_heads.fault R l
    (subst (λ ms. first_refusal (given_checks (premises_in s.items (take (length js) ms)) (statements_of s.items js)) ≡ None) e c.in-Ok.ensures.checks)
    (subst (λ items. Stops t.trees (equation_checks_in items js ks) c.in-Err-right_heads.fault) c.in-Ok.ensures.stays.0 c.in-Err-right_heads.ensures.checks)

pub returns-clause-left : goal.returns-clause-left
returns-clause-left c =
    let s = c.args.k.now in
    let t = c.arguments.new.k in
    let js = c.args.args.now in
    let ks = c.args.equations.now in
    let x = c.rule.result.now in
    let R : IsRuleOf s.items c.args.r x.premises x.conclusion = rule_there s.items c.args.r (x.name, x.premises, x.conclusion) c.rule.ensures.good c.rule.ensures.rule in
    let e : c.items.result.now ≡ x.premises = c.items.ensures ∙ c.in_ok-premises.ensures in
    left_instance s t.trees c.args.r x.premises x.conclusion js ks c.in-Ok.given.instance.pairs R
    (subst (λ ms. instance_in t.trees c.in-Ok.given.instance.pairs ≡ instance_of (premises_in s.items (take (length js) ms)) (heads (statements_of s.items js))) e c.in-Ok.ensures.instance)

pub returns-clause-right : goal.returns-clause-right
returns-clause-right c =
    let s = c.args.k.now in
    let t = c.arguments.new.k in
    let js = c.args.args.now in
    let ks = c.args.equations.now in
    let x = c.rule.result.now in
    let R : IsRuleOf s.items c.args.r x.premises x.conclusion = rule_there s.items c.args.r (x.name, x.premises, x.conclusion) c.rule.ensures.good c.rule.ensures.rule in
    let e : c.items.result.now ≡ x.premises = c.items.ensures ∙ c.in_ok-premises.ensures in
    right_instance s t c.args.r x.premises x.conclusion js ks c.in-Ok-right_heads.rights c.in_ok-right.right.pairs R c.in-Ok.ensures.stays.0 c.in-Ok-right_heads.ensures.heads
    (c.in_ok-right.ensures ∙ ap₂ zip (ap (take (length js)) e) c.items-2.ensures)

pub returns-clause-right_pairs : goal.returns-clause-right_pairs
returns-clause-right_pairs c =
    paired_below (length c.arguments.new.k.trees) (take (length c.args.args.now) c.items.result.now) c.in-Ok-right_heads.rights c.in_ok-right.right.pairs c.in-Ok-right_heads.ensures.below
    (c.in_ok-right.ensures ∙ ap (zip (take (length c.args.args.now) c.items.result.now)) c.items-2.ensures)

pub returns-clause-checks : goal.returns-clause-checks
returns-clause-checks c =
    let s = c.args.k.now in
    let t = c.arguments.new.k in
    let js = c.args.args.now in
    let ks = c.args.equations.now in
    let x = c.rule.result.now in
    let R : IsRuleOf s.items c.args.r x.premises x.conclusion = rule_there s.items c.args.r (x.name, x.premises, x.conclusion) c.rule.ensures.good c.rule.ensures.rule in
    let e : c.items.result.now ≡ x.premises = c.items.ensures ∙ c.in_ok-premises.ensures in
    let l : length js < length x.premises = subst (λ ms. length js < length ms) (c.items-wanted.ensures ∙ c.in_ok-premises.ensures) c.if-count-wanted.false in
    equal_passed s.items c.args.r x.premises x.conclusion js ks R l
    (subst (λ ms. first_refusal (given_checks (premises_in s.items (take (length js) ms)) (statements_of s.items js)) ≡ None) e c.in-Ok.ensures.checks)
    (subst (λ items. first_refusal (equation_checks_in items js ks) ≡ None) c.in-Ok.ensures.stays.0 c.in-Ok-right_heads.ensures.checks)
