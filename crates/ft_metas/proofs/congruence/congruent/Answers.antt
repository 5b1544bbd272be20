use Rattle.std.proofs.Common.{◌≡◌, ◌∙◌, length, true, subst, sym, ap, ap₂, map}
use Rattle.std.specs.Prelude.{Ok}
use Rattle.ft_theory.specs.Statements.{plain}
use Rattle.ft_items.specs.Equal.{is_object, right_terms}
use Rattle.ft_items.specs.Rows.{meta_congruence}
use Rattle.ft_reference.specs.Refusals.{AllSmall, claim_expressions, expressions}
use Rattle.ft_reference.specs.Checks.{meta_congruence_checks}
use Rattle.ft_syntax.specs.Table.{tree, terms_in, AllBelow}
use Rattle.ft_syntax.specs.Laws.{all_below_extends}
use Rattle.ft_judge.specs.Meaning.{goal_in, boundary_in}
use Rattle.ft_judge.specs.Laws.{boundary_below_extends}
use Rattle.ft_judge.specs.declared.fault.Refusal.TheVariants.{WrongForm}
use Rattle.ft_judge.specs.declared.fault.Fault.TheVariants.{Refused}
use Rattle.ft_calls.specs.Forming.{plain_in}
use Rattle.ft_metas.specs.Named.{statements_of}
use Rattle.ft_metas.specs.Outcomes.{Stops, Formed}
use Rattle.ft_metas.specs.Operands.{AreEquations}
use Rattle.ft_metas.specs.Putting.{goal_with, equated_at}
use Rattle.ft_metas.proofs.Naming.{theses_stay}
use Rattle.ft_metas.proofs.Sides.{equations_are, object_over}
use Rattle.ft_metas.proofs.Applied.{equated_at_sides, object_under, object_with, congruence_other, congruence_misfit, congruence_big, congruence_formed, equated_is, equated_goal_small}
use Rattle.ft_metas.proofs.congruence.congruent.Goals as goal

pub returns-then-not-is_object-clause-formed : goal.returns-then-not-is_object-clause-formed
returns-then-not-is_object-clause-formed c =
    let s = c.args.k.now in
    let b = c.in_ok-boundary.boundary in
    let xs = statements_of s.items c.args.es.now in
    subst (λ D. Stops s.trees (meta_congruence_checks c.args.m D xs) (Refused WrongForm)) c.in_ok-boundary.ensures.boundary
    (congruence_other s.trees c.args.m (boundary_in s.trees b) xs (object_under s.trees b.domains (goal_in s.trees b.goal) ∙ c.if-not-is_object.ensures s.trees))

pub returns-in-Err-clause-formed : goal.returns-in-Err-clause-formed
returns-in-Err-clause-formed c =
    let s = c.args.k.now in
    let t = c.operands.new.k in
    let b = c.in_ok-boundary.boundary in
    let xs = statements_of s.items c.args.es.now in
    let o : is_object (boundary_in s.trees b) ≡ true = object_under s.trees b.domains (goal_in s.trees b.goal) ∙ c.if-not-is_object.ensures s.trees in
    subst (λ D. Stops t.trees (meta_congruence_checks c.args.m D xs) c.in-Err.fault) c.in_ok-boundary.ensures.boundary (congruence_misfit t.trees c.args.m (boundary_in s.trees b) xs c.in-Err.fault o c.in-Err.ensures.checks)

pub right_sides-requires-clause-theses : goal.right_sides-requires-clause-theses
right_sides-requires-clause-theses c = theses_stay c.args.k.now c.operands.new.k c.args.es.now c.in-Ok.ensures.stays.0 c.requires.equations

pub right_sides-requires-clause-equations : goal.right_sides-requires-clause-equations
right_sides-requires-clause-equations c =
    let s = c.args.k.now in
    subst (λ items. AreEquations (statements_of items c.args.es.now)) (sym c.in-Ok.ensures.stays.0) (equations_are (boundary_in s.trees c.in_ok-boundary.boundary) (statements_of s.items c.args.es.now) c.in-Ok.ensures.checks)

pub put_goal-requires-clause-below : goal.put_goal-requires-clause-below
put_goal-requires-clause-below c = (boundary_below_extends c.args.k.now.trees c.operands.new.k.trees c.in_ok-boundary.boundary c.in-Ok.ensures.stays.1 c.in_ok-boundary.ensures.within).1

pub put_goal-requires-clause-terms : goal.put_goal-requires-clause-terms
put_goal-requires-clause-terms c = subst (AllBelow (length c.operands.new.k.trees)) (sym c.items.ensures) c.in-Ok.ensures.within

pub returns-in-Err-put_goal-clause-formed : goal.returns-in-Err-put_goal-clause-formed
returns-in-Err-put_goal-clause-formed c =
    let s = c.args.k.now in
    let t = c.operands.new.k in
    let u = c.put_goal.new.k in
    let b = c.in_ok-boundary.boundary in
    let xs = statements_of s.items c.args.es.now in
    let es = c.items.result.now in
    let o : is_object (boundary_in s.trees b) ≡ true = object_under s.trees b.domains (goal_in s.trees b.goal) ∙ c.if-not-is_object.ensures s.trees in
    subst (λ D. Stops u.trees (meta_congruence_checks c.args.m D xs) c.from.result) c.in_ok-boundary.ensures.boundary
    (subst (Stops u.trees (meta_congruence_checks c.args.m (boundary_in s.trees b) xs)) (sym c.from.ensures)
    (congruence_big u.trees c.args.m (boundary_in s.trees b) xs (AllSmall (claim_expressions (goal_with t.trees es (goal_in t.trees b.goal)))) c.in-Err-put_goal.fault o c.in-Ok.ensures.checks
    (equated_goal_small s.trees t.trees b c.args.m es xs c.in-Ok.ensures.stays.1 c.in_ok-boundary.ensures.within (ap length c.items.ensures ∙ c.in-Ok.ensures.count) (ap (terms_in t.trees) c.items.ensures ∙ c.in-Ok.ensures.operands) (c.if-not-is_object.ensures t.trees))
    c.in-Err-put_goal.ensures.small))

pub equated-requires-clause-lefts : goal.equated-requires-clause-lefts
equated-requires-clause-lefts c =
    let t = c.operands.new.k in
    let u = c.put_goal.new.k in
    subst (AllBelow (length u.trees)) (sym c.items-2.ensures) (all_below_extends t.trees u.trees c.in-Ok.lefts c.in-Ok-put_goal.ensures.stays.1 c.in-Ok.ensures.within)

pub equated-requires-clause-rights : goal.equated-requires-clause-rights
equated-requires-clause-rights c =
    let t = c.operands.new.k in
    let u = c.put_goal.new.k in
    subst (AllBelow (length u.trees)) (sym c.items-3.ensures) (all_below_extends t.trees u.trees c.in_ok-rights.rights c.in-Ok-put_goal.ensures.stays.1 c.in_ok-rights.ensures.within)

pub equated-requires-clause-small : goal.equated-requires-clause-small
equated-requires-clause-small c = subst (λ g. AllSmall (claim_expressions g)) (sym c.in-Ok-put_goal.ensures.goal) c.in-Ok-put_goal.ensures.small

pub equated-requires-clause-object : goal.equated-requires-clause-object
equated-requires-clause-object c =
    let t = c.operands.new.k in
    let u = c.put_goal.new.k in
    let b = c.in_ok-boundary.boundary in
    object_over u.trees c.in-Ok-put_goal.goal (goal_with t.trees c.items.result.now (goal_in t.trees b.goal)) c.in-Ok-put_goal.ensures.goal
    (object_with (map (tree t.trees) c.items.result.now) (goal_in t.trees b.goal) ∙ c.if-not-is_object.ensures t.trees)

pub returns-in-Ok-equated-clause-formed : goal.returns-in-Ok-equated-clause-formed
returns-in-Ok-equated-clause-formed c =
    let s = c.args.k.now in
    let t = c.operands.new.k in
    let u = c.put_goal.new.k in
    let v = c.equated.new.k in
    let b = c.in_ok-boundary.boundary in
    let xs = statements_of s.items c.args.es.now in
    let es = c.in-Ok.lefts in
    let fs = c.in_ok-rights.rights in
    let g = c.in-Ok-put_goal.goal in
    let o : is_object (boundary_in s.trees b) ≡ true = object_under s.trees b.domains (goal_in s.trees b.goal) ∙ c.if-not-is_object.ensures s.trees in
    let q : goal_in u.trees g ≡ goal_with t.trees es (goal_in t.trees b.goal) = c.in-Ok-put_goal.ensures.goal ∙ ap (λ es. goal_with t.trees es (goal_in t.trees b.goal)) c.items.ensures in
    let r : terms_in t.trees fs ≡ right_terms xs = c.in_ok-rights.ensures.terms ∙ ap (λ items. right_terms (statements_of items c.args.es.now)) c.in-Ok.ensures.stays.0 in
    let same : plain (equated_at u.trees g c.args.m es fs) ≡ equated_at_sides c.args.m (boundary_in s.trees b) xs =
    equated_is s.trees t.trees u.trees b c.args.m es fs g xs c.in-Ok.ensures.stays.1 c.in-Ok-put_goal.ensures.stays.1 c.in_ok-boundary.ensures.within c.in-Ok.ensures.within c.in_ok-rights.ensures.within c.in-Ok.ensures.count c.in-Ok.ensures.operands r q in
    subst (λ D. Formed (plain_in v.trees) v.trees (meta_congruence_checks c.args.m D xs) (meta_congruence c.args.m D xs) (Ok c.in-Ok-equated.form)) c.in_ok-boundary.ensures.boundary
    (congruence_formed v.trees c.args.m (boundary_in s.trees b) xs c.in-Ok-equated.form (equated_at u.trees g c.args.m es fs) o c.in-Ok.ensures.checks same
    (c.in-Ok-equated.ensures.form ∙ ap₂ (equated_at u.trees g c.args.m) c.items-2.ensures c.items-3.ensures)
    (subst (λ fs. AllSmall (claim_expressions (equated_at u.trees g c.args.m es fs))) c.items-3.ensures (subst (λ es. AllSmall (claim_expressions (equated_at u.trees g c.args.m es c.items-3.result.now))) c.items-2.ensures c.in-Ok-equated.ensures.small)))

pub returns-clause-formed : goal.returns-clause-formed
returns-clause-formed c =
    let s = c.args.k.now in
    let t = c.operands.new.k in
    let u = c.put_goal.new.k in
    let v = c.equated.new.k in
    let b = c.in_ok-boundary.boundary in
    let xs = statements_of s.items c.args.es.now in
    let es = c.in-Ok.lefts in
    let fs = c.in_ok-rights.rights in
    let g = c.in-Ok-put_goal.goal in
    let o : is_object (boundary_in s.trees b) ≡ true = object_under s.trees b.domains (goal_in s.trees b.goal) ∙ c.if-not-is_object.ensures s.trees in
    let q : goal_in u.trees g ≡ goal_with t.trees es (goal_in t.trees b.goal) = c.in-Ok-put_goal.ensures.goal ∙ ap (λ es. goal_with t.trees es (goal_in t.trees b.goal)) c.items.ensures in
    let r : terms_in t.trees fs ≡ right_terms xs = c.in_ok-rights.ensures.terms ∙ ap (λ items. right_terms (statements_of items c.args.es.now)) c.in-Ok.ensures.stays.0 in
    let same : plain (equated_at u.trees g c.args.m es fs) ≡ equated_at_sides c.args.m (boundary_in s.trees b) xs =
    equated_is s.trees t.trees u.trees b c.args.m es fs g xs c.in-Ok.ensures.stays.1 c.in-Ok-put_goal.ensures.stays.1 c.in_ok-boundary.ensures.within c.in-Ok.ensures.within c.in_ok-rights.ensures.within c.in-Ok.ensures.count c.in-Ok.ensures.operands r q in
    subst (λ D. Stops v.trees (meta_congruence_checks c.args.m D xs) c.from-in-Err-equated.result) c.in_ok-boundary.ensures.boundary
    (subst (Stops v.trees (meta_congruence_checks c.args.m (boundary_in s.trees b) xs)) (sym c.from-in-Err-equated.ensures)
    (congruence_big v.trees c.args.m (boundary_in s.trees b) xs (AllSmall (claim_expressions (equated_at u.trees g c.args.m c.items-2.result.now c.items-3.result.now))) c.in-Err-equated.fault o c.in-Ok.ensures.checks
    (λ h. subst (λ es. AllSmall (claim_expressions (equated_at u.trees g c.args.m es c.items-3.result.now))) (sym c.items-2.ensures)
    (subst (λ fs. AllSmall (claim_expressions (equated_at u.trees g c.args.m es fs))) (sym c.items-3.ensures) (subst (λ x. AllSmall (expressions x)) (sym same) h))) c.in-Err-equated.ensures.small))
