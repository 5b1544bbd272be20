use Rattle.std.proofs.Common.{rules, ◌≡◌, ◌∙◌, ◌+◌, sym, ap, drop, map, Ok, Err, arith}
use Rattle.ft_equality.specs.Results.{◌>>◌}
use Rattle.ft_meaning.specs.Trees.{form, place, cases, handlers}
use Rattle.ft_meaning.specs.Typing.{ensure_type, ensure_cases, ensure_handlers}
use Rattle.ft_meaning.proofs.Written.{case, handler}
use Rattle.ft_types.specs.Types.{type_in}
use Rattle.ft_types.specs.Checking.{scope_of}
use Rattle.ft_types.proofs.Keeping.{keeps_trans, below_kept, type_kept_on}
use Rattle.ft_types.proofs.Cases.{first_case, first_case_fails, next_case, next_case_fails, next_handler, handler_fails, scope_same, case_same, first_at, case_at, handler_at, handler_same, passes_err, finds_err, finds_ok}
use Rattle.ft_types.proofs.CaseRest.{cases_rest}
use Rattle.ft_types.proofs.checker.Checker.+typing.Goals as goal

pub cases-returns-in_err-found-in-len1-up-clause-finds : goal.cases-returns-in_err-found-in-len1-up-clause-finds
cases-returns-in_err-found-in-len1-up-clause-finds t c =
    let e = c.in_err-found-in-len1-up.field-0.0 in
    let is : c.from_residual.result ≡ Err e = search rules in
    finds_err _ _ e _ _ is (λ told.
    first_at c.args.cs.now c.first-item.result _ _ c.first-item.is (omega arith)
    ∙ first_case_fails c.first-item.result (drop 1 c.args.cs.now) _ _ e c.in_err-found-in-len1-up.ensures.finds told)

pub cases-returns-in_err-other_cases-in-len1-up-clause-finds : goal.cases-returns-in_err-other_cases-in-len1-up-clause-finds
cases-returns-in_err-other_cases-in-len1-up-clause-finds t c =
    let e = c.in_err-other_cases-in-len1-up.field-0.0 in
    let is : c.from_residual-in_err-other_cases-in-len1-up.result ≡ Err e = search rules in
    let v = c.args.self.now in
    let x = c.case.new.self in
    let A = type_kept_on v x c.args.t c.case.ensures.keeps c.requires in
    let s = scope_same v x c.case.ensures.keeps.top c.in_ok-found-in-len1-up.ensures.finds.2 in
    finds_err _ _ e _ _ is (λ told.
    first_at c.args.cs.now c.first-item.result _ _ c.first-item.is (omega arith)
    ∙ first_case c.first-item.result (drop 1 c.args.cs.now) _ _ _ c.in_ok-found-in-len1-up.ensures.finds.0
    ∙ ap (λ r. r >> Ok (type_in x.types c.in_ok-found-in-len1-up.found)) (cases_rest c.args.cs.now _ _ _ _ _ _ A s (c.in_err-other_cases-in-len1-up.ensures.finds told)))

pub cases-returns-in_ok-other_cases-in-len1-up-clause-finds : goal.cases-returns-in_ok-other_cases-in-len1-up-clause-finds
cases-returns-in_ok-other_cases-in-len1-up-clause-finds t c =
    let v = c.args.self.now in
    let x = c.case.new.self in
    let y = c.other_cases.new.self in
    let found = c.in_ok-found-in-len1-up.found in
    let below = c.in_ok-found-in-len1-up.ensures.finds.1 in
    let keeps = c.other_cases.ensures.keeps in
    let A = type_kept_on v x c.args.t c.case.ensures.keeps c.requires in
    let s = scope_same v x c.case.ensures.keeps.top c.in_ok-found-in-len1-up.ensures.finds.2 in
    finds_ok _ found v y
    (first_at c.args.cs.now c.first-item.result _ _ c.first-item.is (omega arith)
    ∙ first_case c.first-item.result (drop 1 c.args.cs.now) _ _ _ c.in_ok-found-in-len1-up.ensures.finds.0
    ∙ ap (λ r. r >> Ok (type_in x.types found)) (cases_rest c.args.cs.now _ _ _ _ _ _ A s c.in_ok-other_cases-in-len1-up.ensures.finds.0)
    ∙ ap (λ X. Ok X) (sym (type_kept_on x y found keeps below)))
    (below_kept x y found keeps below)
    (c.in_ok-other_cases-in-len1-up.ensures.finds.1 ∙ c.in_ok-found-in-len1-up.ensures.finds.2)

pub other_cases-returns-in_err-found-clause-finds : goal.other_cases-returns-in_err-found-clause-finds
other_cases-returns-in_err-found-clause-finds t c =
    let e = c.in_err-found.field-0.0 in
    let is : c.from_residual.result ≡ Err e = search rules in
    let v = c.args.self.now in
    let w = c.loop-c.self in
    let A = type_kept_on v w c.args.t c.loop-c.invariant.kept c.requires.0 in
    let s = scope_same v w c.loop-c.invariant.kept.top c.loop-c.invariant.locals in
    passes_err _ _ e _ _ is (λ told. sym c.loop-c.invariant.left
    ∙ case_at c.args.cs.now c.loop-c.c-index c.c-item.result _ _ _ c.c-item.is c.loop-c-test.true
    ∙ next_case_fails c.c-item.result _ _ _ _ e (λ told. case_same c.c-item.result _ _ _ _ _ A s (c.in_err-found.ensures.finds told)) told)

pub other_cases-returns-in_err-ensure_type-clause-finds : goal.other_cases-returns-in_err-ensure_type-clause-finds
other_cases-returns-in_err-ensure_type-clause-finds t c =
    let e = c.in_err-ensure_type.field-0.0 in
    let is : c.from_residual-in_err-ensure_type.result ≡ Err e = search rules in
    let v = c.args.self.now in
    let w = c.loop-c.self in
    let x = c.case.new.self in
    let A = type_kept_on v w c.args.t c.loop-c.invariant.kept c.requires.0 in
    let s = scope_same v w c.loop-c.invariant.kept.top c.loop-c.invariant.locals in
    let B = type_kept_on v x c.args.wanted (keeps_trans v w x c.loop-c.invariant.kept c.case.ensures.keeps) c.requires.1 in
    let at : c.place_of.result ≡ place (form c.c-item.result.body) = search rules in
    passes_err _ _ e _ _ is (λ told. sym c.loop-c.invariant.left
    ∙ case_at c.args.cs.now c.loop-c.c-index c.c-item.result _ _ _ c.c-item.is c.loop-c-test.true
    ∙ next_case c.c-item.result _ _ _ _ _ (case_same c.c-item.result _ _ _ _ _ A s c.in_ok-found.ensures.finds.0)
    ∙ ap (λ r. r >> ensure_cases (cases (map case (drop (c.loop-c.c-index + 1) c.args.cs.now))) (type_in v.types c.args.t) (type_in v.types c.args.wanted) (scope_of v))
    (sym (ap (λ k. ensure_type k (type_in x.types c.args.wanted) (type_in x.types c.in_ok-found.found)) at
    ∙ ap (λ X. ensure_type (place (form c.c-item.result.body)) X (type_in x.types c.in_ok-found.found)) B) ∙ c.in_err-ensure_type.ensures told))

pub other_cases-loop-c-preserved : goal.other_cases-loop-c-preserved
other_cases-loop-c-preserved t c =
    let v = c.args.self.now in
    let w = c.loop-c.self in
    let x = c.case.new.self in
    let A = type_kept_on v w c.args.t c.loop-c.invariant.kept c.requires.0 in
    let s = scope_same v w c.loop-c.invariant.kept.top c.loop-c.invariant.locals in
    let B = type_kept_on v x c.args.wanted (keeps_trans v w x c.loop-c.invariant.kept c.case.ensures.keeps) c.requires.1 in
    let at : c.place_of.result ≡ place (form c.c-item.result.body) = search rules in
    record {
      kept = keeps_trans v w x c.loop-c.invariant.kept c.case.ensures.keeps;
      locals = c.in_ok-found.ensures.finds.2 ∙ c.loop-c.invariant.locals;
      left = sym (sym c.loop-c.invariant.left
          ∙ case_at c.args.cs.now c.loop-c.c-index c.c-item.result _ _ _ c.c-item.is c.loop-c-test.true
          ∙ next_case c.c-item.result _ _ _ _ _ (case_same c.c-item.result _ _ _ _ _ A s c.in_ok-found.ensures.finds.0)
          ∙ ap (λ r. r >> ensure_cases (cases (map case (drop (c.loop-c.c-index + 1) c.args.cs.now))) (type_in v.types c.args.t) (type_in v.types c.args.wanted) (scope_of v))
          (sym (ap (λ k. ensure_type k (type_in x.types c.args.wanted) (type_in x.types c.in_ok-found.found)) at
          ∙ ap (λ X. ensure_type (place (form c.c-item.result.body)) X (type_in x.types c.in_ok-found.found)) B) ∙ c.in_ok-ensure_type.ensures));
    }

pub handlers-returns-in_err-handler-clause-finds : goal.handlers-returns-in_err-handler-clause-finds
handlers-returns-in_err-handler-clause-finds t c =
    let e = c.in_err-handler.field-0.0 in
    let is : c.from_residual.result ≡ Err e = search rules in
    let v = c.args.self.now in
    let w = c.loop-h.self in
    let A = type_kept_on v w c.args.t c.loop-h.invariant.kept c.requires in
    let s = scope_same v w c.loop-h.invariant.kept.top c.loop-h.invariant.locals in
    passes_err _ _ e _ _ is (λ told. sym c.loop-h.invariant.left
    ∙ handler_at c.args.hs.now c.loop-h.h-index c.h-item.result _ _ _ c.h-item.is c.loop-h-test.true
    ∙ handler_fails c.h-item.result _ _ _ _ e (λ told. handler_same c.h-item.result _ _ _ _ _ _ A s (c.in_err-handler.ensures.finds told)) told)

pub handlers-loop-h-preserved : goal.handlers-loop-h-preserved
handlers-loop-h-preserved t c =
    let v = c.args.self.now in
    let w = c.loop-h.self in
    let x = c.handler.new.self in
    let A = type_kept_on v w c.args.t c.loop-h.invariant.kept c.requires in
    let s = scope_same v w c.loop-h.invariant.kept.top c.loop-h.invariant.locals in
    record {
      kept = keeps_trans v w x c.loop-h.invariant.kept c.handler.ensures.keeps;
      locals = c.in_ok-handler.ensures.finds.1 ∙ c.loop-h.invariant.locals;
      left = sym (sym c.loop-h.invariant.left
          ∙ handler_at c.args.hs.now c.loop-h.h-index c.h-item.result _ _ _ c.h-item.is c.loop-h-test.true
          ∙ next_handler c.h-item.result _ _ _ _ (handler_same c.h-item.result _ _ _ _ _ _ A s c.in_ok-handler.ensures.finds.0)
          ∙ ap (λ ns. ensure_handlers (handlers (map handler (drop (c.loop-h.h-index + 1) c.args.hs.now))) ns (type_in v.types c.args.t) (scope_of v)) (sym c.in_ok-handler.ensures.seen));
    }
