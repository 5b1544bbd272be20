use Rattle.std.proofs.Common.{◌≡◌, ◌∙◌, length, subst, sym, ap}
use Rattle.std.specs.Prelude.{Ok}
use Rattle.ft_items.specs.Rows.{applied_meta}
use Rattle.ft_theory.specs.Statements.{plain}
use Rattle.ft_reference.specs.Refusals.{AllSmall, claim_expressions, expressions}
use Rattle.ft_reference.specs.Checks.{meta_checks}
use Rattle.ft_syntax.specs.Table.{terms_in, AllBelow}
use Rattle.ft_syntax.specs.Laws.{all_below_extends}
use Rattle.ft_judge.specs.Meaning.{goal_in, boundary_in}
use Rattle.ft_judge.specs.Laws.{boundary_below_extends}
use Rattle.ft_calls.specs.Forming.{plain_in}
use Rattle.ft_metas.specs.Named.{statements_of}
use Rattle.ft_metas.specs.Outcomes.{Stops, Formed}
use Rattle.ft_metas.specs.Putting.{goal_with, filled_at}
use Rattle.ft_metas.proofs.Applied.{applied_at, applied_misfit, applied_big, applied_formed, filled_is, applied_goal_small}
use Rattle.ft_metas.proofs.applying.applied.Goals as goal

pub returns-in-Err-clause-formed : goal.returns-in-Err-clause-formed
returns-in-Err-clause-formed c =
    let s = c.args.k.now in
    let t = c.operands.new.k in
    let xs = statements_of s.items c.args.args.now in
    let B = boundary_in s.trees c.in_ok-boundary.boundary in
    subst (λ D. Stops t.trees (meta_checks c.args.m D xs) c.in-Err.fault) c.in_ok-boundary.ensures.boundary (applied_misfit t.trees c.args.m B xs c.in-Err.fault c.in-Err.ensures.checks)

pub put_goal-requires-clause-below : goal.put_goal-requires-clause-below
put_goal-requires-clause-below c = (boundary_below_extends c.args.k.now.trees c.operands.new.k.trees c.in_ok-boundary.boundary c.in-Ok.ensures.stays.1 c.in_ok-boundary.ensures.within).1

pub put_goal-requires-clause-terms : goal.put_goal-requires-clause-terms
put_goal-requires-clause-terms c = subst (AllBelow (length c.operands.new.k.trees)) (sym c.items.ensures) c.in-Ok.ensures.within

pub returns-in-Err-put_goal-clause-formed : goal.returns-in-Err-put_goal-clause-formed
returns-in-Err-put_goal-clause-formed c =
    let s = c.args.k.now in
    let t = c.operands.new.k in
    let u = c.put_goal.new.k in
    let b = c.in_ok-boundary.boundary in
    let xs = statements_of s.items c.args.args.now in
    let es = c.items.result.now in
    subst (λ D. Stops u.trees (meta_checks c.args.m D xs) c.from.result) c.in_ok-boundary.ensures.boundary
    (subst (Stops u.trees (meta_checks c.args.m (boundary_in s.trees b) xs)) (sym c.from.ensures)
    (applied_big u.trees c.args.m (boundary_in s.trees b) xs (AllSmall (claim_expressions (goal_with t.trees es (goal_in t.trees b.goal)))) c.in-Err-put_goal.fault c.in-Ok.ensures.checks
    (applied_goal_small s.trees t.trees b c.args.m es xs c.in-Ok.ensures.stays.1 c.in_ok-boundary.ensures.within (ap length c.items.ensures ∙ c.in-Ok.ensures.count) (ap (terms_in t.trees) c.items.ensures ∙ c.in-Ok.ensures.operands))
    c.in-Err-put_goal.ensures.small))

pub filled-requires-clause-terms : goal.filled-requires-clause-terms
filled-requires-clause-terms c =
    let t = c.operands.new.k in
    let u = c.put_goal.new.k in
    subst (AllBelow (length u.trees)) (sym c.items-2.ensures) (all_below_extends t.trees u.trees c.in-Ok.terms c.in-Ok-put_goal.ensures.stays.1 c.in-Ok.ensures.within)

pub filled-requires-clause-small : goal.filled-requires-clause-small
filled-requires-clause-small c = subst (λ g. AllSmall (claim_expressions g)) (sym c.in-Ok-put_goal.ensures.goal) c.in-Ok-put_goal.ensures.small

pub returns-in-Ok-filled-clause-formed : goal.returns-in-Ok-filled-clause-formed
returns-in-Ok-filled-clause-formed c =
    let s = c.args.k.now in
    let t = c.operands.new.k in
    let u = c.put_goal.new.k in
    let v = c.filled.new.k in
    let b = c.in_ok-boundary.boundary in
    let xs = statements_of s.items c.args.args.now in
    let es = c.in-Ok.terms in
    let g = c.in-Ok-put_goal.goal in
    let q : goal_in u.trees g ≡ goal_with t.trees es (goal_in t.trees b.goal) = c.in-Ok-put_goal.ensures.goal ∙ ap (λ es. goal_with t.trees es (goal_in t.trees b.goal)) c.items.ensures in
    let same : plain (filled_at u.trees g c.args.m es) ≡ applied_at c.args.m (boundary_in s.trees b) xs =
    filled_is s.trees t.trees u.trees b c.args.m es g xs c.in-Ok.ensures.stays.1 c.in-Ok-put_goal.ensures.stays.1 c.in_ok-boundary.ensures.within c.in-Ok.ensures.within c.in-Ok.ensures.count c.in-Ok.ensures.operands q in
    subst (λ D. Formed (plain_in v.trees) v.trees (meta_checks c.args.m D xs) (applied_meta c.args.m D xs) (Ok c.in-Ok-filled.form)) c.in_ok-boundary.ensures.boundary
    (applied_formed v.trees c.args.m (boundary_in s.trees b) xs c.in-Ok-filled.form (filled_at u.trees g c.args.m es) c.in-Ok.ensures.checks same
    (c.in-Ok-filled.ensures.form ∙ ap (filled_at u.trees g c.args.m) c.items-2.ensures)
    (subst (λ es. AllSmall (claim_expressions (filled_at u.trees g c.args.m es))) c.items-2.ensures c.in-Ok-filled.ensures.small))

pub returns-clause-formed : goal.returns-clause-formed
returns-clause-formed c =
    let s = c.args.k.now in
    let t = c.operands.new.k in
    let u = c.put_goal.new.k in
    let v = c.filled.new.k in
    let b = c.in_ok-boundary.boundary in
    let xs = statements_of s.items c.args.args.now in
    let es = c.in-Ok.terms in
    let fs = c.items-2.result.now in
    let g = c.in-Ok-put_goal.goal in
    let q : goal_in u.trees g ≡ goal_with t.trees es (goal_in t.trees b.goal) = c.in-Ok-put_goal.ensures.goal ∙ ap (λ es. goal_with t.trees es (goal_in t.trees b.goal)) c.items.ensures in
    let same : plain (filled_at u.trees g c.args.m es) ≡ applied_at c.args.m (boundary_in s.trees b) xs =
    filled_is s.trees t.trees u.trees b c.args.m es g xs c.in-Ok.ensures.stays.1 c.in-Ok-put_goal.ensures.stays.1 c.in_ok-boundary.ensures.within c.in-Ok.ensures.within c.in-Ok.ensures.count c.in-Ok.ensures.operands q in
    subst (λ D. Stops v.trees (meta_checks c.args.m D xs) c.from-in-Err-filled.result) c.in_ok-boundary.ensures.boundary
    (subst (Stops v.trees (meta_checks c.args.m (boundary_in s.trees b) xs)) (sym c.from-in-Err-filled.ensures)
    (applied_big v.trees c.args.m (boundary_in s.trees b) xs (AllSmall (claim_expressions (filled_at u.trees g c.args.m fs))) c.in-Err-filled.fault c.in-Ok.ensures.checks
    (λ h. subst (λ es. AllSmall (claim_expressions (filled_at u.trees g c.args.m es))) (sym c.items-2.ensures) (subst (λ x. AllSmall (expressions x)) (sym same) h)) c.in-Err-filled.ensures.small))
