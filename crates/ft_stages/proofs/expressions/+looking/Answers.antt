use Rattle.std.proofs.Common.{rules, ◌≡◌, ◌∙◌, [], sym, Some, None}
use Rattle.ft_meaning.specs.Trees.{form}
use Rattle.ft_meaning.specs.Stages.{parts}
use Rattle.ft_stages.specs.First.{first}
use Rattle.ft_stages.proofs.Firsts.{splits_here, splits_later}
use Rattle.ft_stages.proofs.Rows.{forms_at, cases_at, handlers_at}
use Rattle.ft_stages.proofs.expressions.+looking.Goals as goal

pub in_all-returns-in-Some : goal.in_all-returns-in-Some
in_all-returns-in-Some t c =
    let found : first (parts [] (form c.e-item.result)) ≡ Some c.in-Some.at = search rules in
    sym (sym c.loop-e.invariant ∙ splits_here (forms_at c.args.es.now c.loop-e.e-index c.e-item.result c.e-item.is c.loop-e-test.true) found)

pub in_all-loop-e-preserved : goal.in_all-loop-e-preserved
in_all-loop-e-preserved t c =
    let none : first (parts [] (form c.e-item.result)) ≡ None = search rules in
    sym (sym c.loop-e.invariant ∙ splits_later (forms_at c.args.es.now c.loop-e.e-index c.e-item.result c.e-item.is c.loop-e-test.true) none)

pub in_cases-returns-in-Some : goal.in_cases-returns-in-Some
in_cases-returns-in-Some t c =
    let found : first (parts [] (form c.c-item.result.body)) ≡ Some c.in-Some.at = search rules in
    sym (sym c.loop-c.invariant ∙ splits_here (cases_at c.args.cs.now c.loop-c.c-index c.c-item.result c.c-item.is c.loop-c-test.true) found)

pub in_cases-loop-c-preserved : goal.in_cases-loop-c-preserved
in_cases-loop-c-preserved t c =
    let none : first (parts [] (form c.c-item.result.body)) ≡ None = search rules in
    sym (sym c.loop-c.invariant ∙ splits_later (cases_at c.args.cs.now c.loop-c.c-index c.c-item.result c.c-item.is c.loop-c-test.true) none)

pub in_handlers-returns-in-Some : goal.in_handlers-returns-in-Some
in_handlers-returns-in-Some t c =
    let found : first (parts [] (form c.h-item.result.body)) ≡ Some c.in-Some.at = search rules in
    sym (sym c.loop-h.invariant ∙ splits_here (handlers_at c.args.hs.now c.loop-h.h-index c.h-item.result c.h-item.is c.loop-h-test.true) found)

pub in_handlers-loop-h-preserved : goal.in_handlers-loop-h-preserved
in_handlers-loop-h-preserved t c =
    let none : first (parts [] (form c.h-item.result.body)) ≡ None = search rules in
    sym (sym c.loop-h.invariant ∙ splits_later (handlers_at c.args.hs.now c.loop-h.h-index c.h-item.result c.h-item.is c.loop-h-test.true) none)
