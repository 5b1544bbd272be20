use Rattle.std.proofs.Common.{◌≡◌, ◌∙◌, None, true, subst, sym, ap}
use Rattle.ft_items.specs.Equal.{is_object_goal}
use Rattle.ft_reference.specs.Refusals.{AllSmall, claim_expressions}
use Rattle.ft_apply.specs.Named.{statements_of, rule_of}
use Rattle.ft_apply.specs.Outcomes.{Stops, BigOr}
use Rattle.ft_apply.specs.Instances.{equated_at}
use Rattle.ft_apply.specs.Equations.{congruence_checks_in, equation_checks_in}
use Rattle.ft_apply.proofs.Naming.{theses_are}
use Rattle.ft_apply.proofs.Fitted.{theses_stay}
use Rattle.ft_apply.proofs.Congruences.{claim_small, equated_there, equated_claim, congruence_wrong, congruence_misfit, congruence_misstart, congruence_big, congruence_formed}
use Rattle.ft_apply.proofs.equating.congruence_formed.Goals as goal

pub returns-then-not-has_symbol-clause-formed : goal.returns-then-not-has_symbol-clause-formed
returns-then-not-has_symbol-clause-formed c =
    let s = c.args.k.now in
    congruence_wrong s.trees c.args.r (rule_of s.items c.args.r) (statements_of s.items c.args.args.now) (statements_of s.items c.args.equations.now)
    (sym c.has_symbol.ensures ∙ c.if-not-has_symbol.true)

pub returns-in-Err-clause-formed : goal.returns-in-Err-clause-formed
returns-in-Err-clause-formed c =
    let s = c.args.k.now in
    congruence_misfit c.applied_formed.new.k.trees c.args.r (rule_of s.items c.args.r) (statements_of s.items c.args.args.now) (statements_of s.items c.args.equations.now) c.in-Err.fault
    (sym c.has_symbol.ensures ∙ c.if-not-has_symbol.false) c.in-Err.ensures.formed

pub right_heads-requires-clause-arguments : goal.right_heads-requires-clause-arguments
right_heads-requires-clause-arguments c = theses_stay c.args.k.now c.applied_formed.new.k c.args.args.now c.in-Ok.ensures.stays.0 c.requires.arguments

pub right_heads-requires-clause-equations : goal.right_heads-requires-clause-equations
right_heads-requires-clause-equations c = theses_stay c.args.k.now c.applied_formed.new.k c.args.equations.now c.in-Ok.ensures.stays.0 c.requires.equations

pub returns-in-Err-right_heads-clause-formed : goal.returns-in-Err-right_heads-clause-formed
returns-in-Err-right_heads-clause-formed c =
    let s = c.args.k.now in
    let t = c.applied_formed.new.k in
    congruence_misstart t.trees c.args.r (rule_of s.items c.args.r) (statements_of s.items c.args.args.now) (statements_of s.items c.args.equations.now) c.in-Err-right_heads.fault
    (sym c.has_symbol.ensures ∙ c.if-not-has_symbol.false) c.in-Ok.ensures.formed.0
    (subst (λ items. Stops t.trees (equation_checks_in items c.args.args.now c.args.equations.now) c.in-Err-right_heads.fault) c.in-Ok.ensures.stays.0 c.in-Err-right_heads.ensures.checks)

pub equated-requires-clause-small : goal.equated-requires-clause-small
equated-requires-clause-small c =
    let s = c.args.k.now in
    claim_small c.applied_formed.new.k.trees c.args.r (rule_of s.items c.args.r) (statements_of s.items c.args.args.now) c.in-Ok.left c.in-Ok.ensures.formed

pub returns-in-Ok-equated-clause-formed : goal.returns-in-Ok-equated-clause-formed
returns-in-Ok-equated-clause-formed c =
    let s = c.args.k.now in
    let t = c.applied_formed.new.k in
    let u = c.equated.new.k in
    let R = rule_of s.items c.args.r in
    let xs = statements_of s.items c.args.args.now in
    let es = statements_of s.items c.args.equations.now in
    let o : is_object_goal R.conclusion ≡ true = sym c.has_symbol.ensures ∙ c.if-not-has_symbol.false in
    let q : equated_at t.trees c.in-Ok.left c.args.r c.items.result.now ≡ equated_claim R c.args.r xs es =
    equated_there s t c.args.r c.args.args.now c.args.equations.now c.in-Ok.left c.items.result.now c.in-Ok.ensures.stays.0 o (theses_are s c.args.args.now c.requires.arguments) c.in-Ok.ensures.formed
    (ap (Rattle.ft_syntax.specs.Table.arguments_in t.trees) c.items.ensures ∙ c.in-Ok-right_heads.ensures.heads) in
    congruence_formed u.trees c.args.r R xs es c.in-Ok-equated.form o (theses_are s c.args.args.now c.requires.arguments) c.in-Ok.ensures.formed.0
    (subst (λ items. Rattle.ft_reference.specs.Refusals.first_refusal (equation_checks_in items c.args.args.now c.args.equations.now) ≡ None) c.in-Ok.ensures.stays.0 c.in-Ok-right_heads.ensures.checks)
    (c.in-Ok-equated.ensures.form ∙ q) (subst (λ g. AllSmall (claim_expressions g)) q c.in-Ok-equated.ensures.small)

pub returns-clause-formed : goal.returns-clause-formed
returns-clause-formed c =
    let s = c.args.k.now in
    let t = c.applied_formed.new.k in
    let u = c.equated.new.k in
    let R = rule_of s.items c.args.r in
    let xs = statements_of s.items c.args.args.now in
    let es = statements_of s.items c.args.equations.now in
    let o : is_object_goal R.conclusion ≡ true = sym c.has_symbol.ensures ∙ c.if-not-has_symbol.false in
    let q : equated_at t.trees c.in-Ok.left c.args.r c.items.result.now ≡ equated_claim R c.args.r xs es =
    equated_there s t c.args.r c.args.args.now c.args.equations.now c.in-Ok.left c.items.result.now c.in-Ok.ensures.stays.0 o (theses_are s c.args.args.now c.requires.arguments) c.in-Ok.ensures.formed
    (ap (Rattle.ft_syntax.specs.Table.arguments_in t.trees) c.items.ensures ∙ c.in-Ok-right_heads.ensures.heads) in
    subst (Stops u.trees (congruence_checks_in s.items c.args.r c.args.args.now c.args.equations.now)) (sym c.from.ensures)
    (congruence_big u.trees c.args.r R xs es c.in-Err-equated.fault o (theses_are s c.args.args.now c.requires.arguments) c.in-Ok.ensures.formed.0
    (subst (λ items. Rattle.ft_reference.specs.Refusals.first_refusal (equation_checks_in items c.args.args.now c.args.equations.now) ≡ None) c.in-Ok.ensures.stays.0 c.in-Ok-right_heads.ensures.checks)
    (subst (λ g. BigOr (AllSmall (claim_expressions g)) c.in-Err-equated.fault) q c.in-Err-equated.ensures.small))
