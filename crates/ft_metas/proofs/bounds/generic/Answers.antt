use Rattle.std.proofs.Common.{◌≡◌, ◌∙◌, length, subst, sym, ap, refl}
use Rattle.std.specs.Prelude.{Ok}
use Rattle.ft_theory.specs.Statements.{fill}
use Rattle.ft_items.specs.Item.{by_generic}
use Rattle.ft_items.specs.Rows.{bounds}
use Rattle.ft_items.specs.Equal.{is_object}
use Rattle.ft_reference.specs.Checks.{forms_application}
use Rattle.ft_syntax.specs.Table.{terms_in, AllBelow}
use Rattle.ft_syntax.specs.Laws.{extends_trans}
use Rattle.ft_judge.specs.Laws.{boundary_below_extends}
use Rattle.ft_calls.specs.Answers.{IsAnswer, Stays}
use Rattle.ft_calls.proofs.Answering.{rests}
use Rattle.ft_calls.proofs.Later.{AreSmallTrees, answers_later}
use Rattle.ft_metas.specs.Named.{declared_of}
use Rattle.ft_metas.specs.Outcomes.{Stops}
use Rattle.ft_metas.proofs.Places.{stays_then}
use Rattle.ft_metas.proofs.Calls.{formed_answered, formed_fault, generic_step}
use Rattle.ft_metas.proofs.Bounding.{goal_small, generic_is, generic_passes, generic_big, generic_head}
use Rattle.ft_metas.proofs.bounds.generic.Goals as goal

pub filled-requires-clause-goal : goal.filled-requires-clause-goal
filled-requires-clause-goal c = (boundary_below_extends c.args.k.now.trees c.bounds.new.k.trees c.in_ok-boundary.boundary c.bounds.ensures.stays.1 c.in_ok-boundary.ensures.within).1

pub filled-requires-clause-terms : goal.filled-requires-clause-terms
filled-requires-clause-terms c = subst (AllBelow (length c.bounds.new.k.trees)) (sym c.items-2.ensures) c.in_ok-terms.ensures.within

pub filled-requires-clause-small : goal.filled-requires-clause-small
filled-requires-clause-small c =
    goal_small c.bounds.new.k.trees c.in_ok-boundary.boundary.goal (subst AreSmallTrees c.terms.ensures.terms c.are_small.ensures)
    (boundary_below_extends c.args.k.now.trees c.bounds.new.k.trees c.in_ok-boundary.boundary c.bounds.ensures.stays.1 c.in_ok-boundary.ensures.within).1

pub returns-in-Err-clause-answers : goal.returns-in-Err-clause-answers
returns-in-Err-clause-answers c =
    let s = c.args.k.now in
    let t = c.bounds.new.k in
    let u = c.filled.new.k in
    let b = c.in_ok-boundary.boundary in
    let D = declared_of s.items c.args.m in
    let e : terms_in t.trees c.items-2.result.now ≡ bounds (length b.domains) =
    ap (terms_in t.trees) c.items-2.ensures ∙ c.in_ok-terms.ensures.terms ∙ ap (λ ds. bounds (length ds)) c.items.ensures in
    formed_fault s u (by_generic c.args.m) (by_generic (c.args.m, D)) c.from.result
    (generic_step s c.args.m c.terms-terms.ensures.good c.requires)
    (subst (Stops u.trees (forms_application (is_object D.boundary) (generic_head c.args.m D.boundary))) (sym c.from.ensures)
    (generic_big s.trees t.trees u.trees b c.args.m c.items-2.result.now D.boundary c.in-Err.fault c.bounds.ensures.stays.1 c.in_ok-boundary.ensures.within c.in_ok-boundary.ensures.boundary e
    (goal_small t.trees b.goal (subst AreSmallTrees c.terms.ensures.terms c.are_small.ensures) (boundary_below_extends s.trees t.trees b c.bounds.ensures.stays.1 c.in_ok-boundary.ensures.within).1) c.in-Err.ensures.small))
    (stays_then s t u c.bounds.ensures.stays c.in-Err.ensures.stays)

pub conclude-requires-clause-below : goal.conclude-requires-clause-below
conclude-requires-clause-below c =
    let s = c.args.k.now in
    let t = c.bounds.new.k in
    let u = c.filled.new.k in
    let b = c.in_ok-boundary.boundary in
    ((boundary_below_extends s.trees u.trees b (extends_trans s.trees t.trees u.trees c.bounds.ensures.stays.1 c.in-Ok.ensures.stays.1) c.in_ok-boundary.ensures.within).0, c.in-Ok.ensures.within)

pub conclude-requires-clause-answer : goal.conclude-requires-clause-answer
conclude-requires-clause-answer c =
    let s = c.args.k.now in
    let t = c.bounds.new.k in
    let u = c.filled.new.k in
    let b = c.in_ok-boundary.boundary in
    let D = declared_of s.items c.args.m in
    let es = c.items-2.result.now in
    let e : terms_in t.trees es ≡ bounds (length b.domains) =
    ap (terms_in t.trees) c.items-2.ensures ∙ c.in_ok-terms.ensures.terms ∙ ap (λ ds. bounds (length ds)) c.items.ensures in
    let x : Stays s u = stays_then s t u c.bounds.ensures.stays c.in-Ok.ensures.stays in
    let q = generic_is s.trees t.trees u.trees b c.args.m es c.in-Ok.form D.boundary c.bounds.ensures.stays.1 c.in-Ok.ensures.stays.1 c.in_ok-boundary.ensures.within
    (boundary_below_extends s.trees u.trees b x.1 c.in_ok-boundary.ensures.within).0 c.in_ok-boundary.ensures.boundary e c.in-Ok.ensures.form in
    subst (λ z. IsAnswer u (by_generic c.args.m) (Ok (rests z c.in_ok-set.set))) (sym q)
    (formed_answered s u (by_generic c.args.m) (by_generic (c.args.m, D)) (fill D.boundary (generic_head c.args.m D.boundary)) c.in_ok-set.set x
    (generic_step s c.args.m c.terms-terms.ensures.good c.requires) refl
    (generic_passes s.trees t.trees b c.args.m es D.boundary c.bounds.ensures.stays.1 c.in_ok-boundary.ensures.within c.in_ok-boundary.ensures.boundary e c.in-Ok.ensures.small, refl)
    c.in_ok-set.ensures)

pub returns-clause-answers : goal.returns-clause-answers
returns-clause-answers c =
    answers_later c.args.k.now c.filled.new.k c.conclude.new.k (by_generic c.args.m) c.conclude.result (stays_then c.args.k.now c.bounds.new.k c.filled.new.k c.bounds.ensures.stays c.in-Ok.ensures.stays) c.conclude.ensures.answers
