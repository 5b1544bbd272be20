use Rattle.std.proofs.Common.{◌≡◌, ◌∙◌, Some, false, length, sym, ap, ap₂, subst, take}
use Rattle.std.specs.Prelude.{IfNone, IfSome, option_map}
use Rattle.ft_items.specs.Equal.{equal_statements}
use Rattle.ft_items.specs.Good.{reason_of_result}
use Rattle.ft_items.specs.Rows.{sets, statements}
use Rattle.ft_items.specs.Sets.{insert, met, union, unions}
use Rattle.ft_items.specs.Store.{each, entry_named, store_of}
use Rattle.ft_judge.specs.Meaning.{boundary_in}
use Rattle.ft_placing.specs.Laws.{none_placed}
use Rattle.ft_placing.specs.Sides.{all_have_sides, placed, sides_in}
use Rattle.ft_steps.specs.Parts.{statement_in, PartsBelow}
use Rattle.ft_check.specs.AtHand.{IsMetavariable}
use Rattle.ft_check.specs.Entries.{entry_in}
use Rattle.ft_check.specs.Judging.{stated}
use Rattle.ft_check.proofs.Bindings.{as_some}
use Rattle.ft_check.proofs.Concluded.{is_none, tested_reason}
use Rattle.ft_check.proofs.MetavariableRead.{placed_reason, tested_none}
use Rattle.ft_check.proofs.metas.check_meta.Goals as goal

pub returns-in_default-2 : goal.returns-in_default-2
returns-in_default-2 c = λ d given t g h e.
    let W = store_of (take c.args.i c.args.items.now.items) in
    let none : all_have_sides c.args.at (statements given) ≡ false =
    subst (λ o. IfNone o (all_have_sides c.args.at (statements given) ≡ false)) c.in_default-2.is (c.in_ok-sides.ensures.none given (ap (each (entry_named W)) c.items.ensures ∙ e)) in
    is_none (placed c.args.at d.0 d.1.boundary (statements given)) (insert (met d.0) (union d.1.set (unions (sets given)))) (stated c.args.items.now.trees c.args.found t)
    (none_placed c.args.at d.0 d.1.boundary (statements given) none)

pub is_placed-requires-clause-y : goal.is_placed-requires-clause-y
is_placed-requires-clause-y c = subst (λ ts. PartsBelow (length ts) c.parts-claimed.result) (sym c.terms.ensures) (c.parts-claimed.ensures.below (length c.args.items.now.trees) c.requires)

pub returns-in-None : goal.returns-in-None
returns-in-None c = λ d given t g h e.
    let T = c.args.items.now.trees in
    let W = store_of (take c.args.i c.args.items.now.items) in
    let E = stated T c.args.found t in
    let k : IsMetavariable T c.args.m c.in-Some.declared d = as_some (λ x. IsMetavariable T c.args.m x d) c.metavariable_at_hand.result c.in-Some.declared (c.metavariable_at_hand.ensures.is d g h) c.in-Some.is in
    let xs = sides_in c.args.at T c.in-Some-2.sides.items in
    let same : xs ≡ statements given =
    subst (λ o. IfSome o (λ v. sides_in c.args.at T v.items ≡ statements given)) c.in-Some-2.is (c.in_ok-sides.ensures.some given (ap (each (entry_named W)) c.items.ensures ∙ e)) in
    placed_reason T c.args.at c.args.m d c.in-Some.declared xs (statements given) c.in_ok-named.named (unions (sets given)) E _ k same (c.in_ok-named.ensures given (ap (each (entry_named W)) c.items-2.ensures ∙ e))
    (tested_none (placed c.args.at c.args.m (boundary_in T c.in-Some.declared.boundary.now) xs) (entry_in T c.args.found).statement (insert (met c.args.m) (union c.in-Some.declared.set.now c.in_ok-named.named)) E c.in_ok-is_placed.field-0
    (subst (λ ts. c.in_ok-is_placed.field-0 ≡ option_map (λ z. equal_statements z (statement_in ts c.parts-claimed.result)) (placed c.args.at c.args.m (boundary_in ts c.in-Some.declared.boundary.now) (sides_in c.args.at ts c.deref.result.now))) c.terms.ensures c.in_ok-is_placed.ensures
    ∙ ap₂ (λ y ss. option_map (λ z. equal_statements z y) (placed c.args.at c.args.m (boundary_in T c.in-Some.declared.boundary.now) (sides_in c.args.at T ss))) (c.parts-claimed.ensures.is T) c.deref.ensures.value)
    c.in-None.is)

pub returns : goal.returns
returns c = λ d given t g h e.
    let T = c.args.items.now.trees in
    let W = store_of (take c.args.i c.args.items.now.items) in
    let E = stated T c.args.found t in
    let k : IsMetavariable T c.args.m c.in-Some.declared d = as_some (λ x. IsMetavariable T c.args.m x d) c.metavariable_at_hand.result c.in-Some.declared (c.metavariable_at_hand.ensures.is d g h) c.in-Some.is in
    let xs = sides_in c.args.at T c.in-Some-2.sides.items in
    let same : xs ≡ statements given =
    subst (λ o. IfSome o (λ v. sides_in c.args.at T v.items ≡ statements given)) c.in-Some-2.is (c.in_ok-sides.ensures.some given (ap (each (entry_named W)) c.items.ensures ∙ e)) in
    placed_reason T c.args.at c.args.m d c.in-Some.declared xs (statements given) c.in_ok-named.named (unions (sets given)) E _ k same (c.in_ok-named.ensures given (ap (each (entry_named W)) c.items-2.ensures ∙ e))
    (tested_reason (placed c.args.at c.args.m (boundary_in T c.in-Some.declared.boundary.now) xs) (entry_in T c.args.found).statement (insert (met c.args.m) (union c.in-Some.declared.set.now c.in_ok-named.named)) E c.in-Some-3.is_concluded c.in_ok-is_placed.field-0 _
    (subst (λ ts. c.in_ok-is_placed.field-0 ≡ option_map (λ z. equal_statements z (statement_in ts c.parts-claimed.result)) (placed c.args.at c.args.m (boundary_in ts c.in-Some.declared.boundary.now) (sides_in c.args.at ts c.deref.result.now))) c.terms.ensures c.in_ok-is_placed.ensures
    ∙ ap₂ (λ y ss. option_map (λ z. equal_statements z y) (placed c.args.at c.args.m (boundary_in T c.in-Some.declared.boundary.now) (sides_in c.args.at T ss))) (c.parts-claimed.ensures.is T) c.deref.ensures.value)
    c.in-Some-3.is
    (λ x w. c.against_test.ensures T x t w ∙ ap (λ S. reason_of_result (Some x) S E) (c.in_ok-set.ensures ∙ ap₂ union c.in_ok-single.ensures c.in_ok-others.ensures)))
