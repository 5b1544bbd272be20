use Rattle.std.proofs.Common.{◌<◌, ◌∙◌, length, subst, sym, ap, Ok}
use Rattle.ft_items.specs.Sets.{met, insert, union, unions}
use Rattle.ft_items.specs.Item.{by_meta}
use Rattle.ft_items.specs.Store.{metavariables_in}
use Rattle.ft_items.specs.Rows.{sets, applied_meta}
use Rattle.ft_reference.specs.Checks.{meta_checks}
use Rattle.ft_judge.specs.Meaning.{thesis_in}
use Rattle.ft_calls.specs.Answers.{IsAnswer, Answers}
use Rattle.ft_calls.specs.Forming.{Gives}
use Rattle.ft_calls.proofs.Answering.{rests}
use Rattle.ft_calls.proofs.Later.{answers_later}
use Rattle.ft_metas.specs.Named.{entries_of, statements_of, declared_of}
use Rattle.ft_metas.proofs.Naming.{theses_stay}
use Rattle.ft_metas.proofs.Calls.{formed_answered, formed_fault, meta_step, meta_kind}
use Rattle.ft_metas.proofs.applying.meta_apply.Goals as goal

pub set_at-requires-clause-metavariable : goal.set_at-requires-clause-metavariable
set_at-requires-clause-metavariable c = subst (λ items. c.args.m < length (metavariables_in items)) (sym c.in-Ok.ensures.stays.0) c.requires.metavariable

pub set_at-requires-clause-arguments : goal.set_at-requires-clause-arguments
set_at-requires-clause-arguments c = theses_stay c.args.k.now c.applied.new.k c.args.args.now c.in-Ok.ensures.stays.0 c.requires.arguments

pub returns-in-Err-clause-answers : goal.returns-in-Err-clause-answers
returns-in-Err-clause-answers c =
    let s = c.args.k.now in
    formed_fault s c.applied.new.k (by_meta c.args.m c.args.args.now) (by_meta (c.args.m, declared_of s.items c.args.m) (entries_of s.items c.args.args.now)) c.in-Err.fault
    (meta_step s c.args.m c.args.args.now c.terms-terms.ensures.good c.requires.metavariable c.requires.arguments) c.in-Err.ensures.formed c.in-Err.ensures.stays

pub conclude-requires-clause-answer : goal.conclude-requires-clause-answer
conclude-requires-clause-answer c =
    let s = c.args.k.now in
    let t = c.applied.new.k in
    let js = c.args.args.now in
    let D = declared_of s.items c.args.m in
    let x = thesis_in t.trees c.plain.result in
    subst (λ js. IsAnswer t (by_meta c.args.m js) (Ok (rests x c.in_ok-set.set))) (sym c.in_ok-of.ensures)
    (formed_answered s t (by_meta c.args.m js) (by_meta (c.args.m, D) (entries_of s.items js)) x c.in_ok-set.set c.in-Ok.ensures.stays
    (meta_step s c.args.m js c.terms-terms.ensures.good c.requires.metavariable c.requires.arguments) (meta_kind s c.args.m js c.requires.arguments)
    (subst (Gives (meta_checks c.args.m D.boundary (statements_of s.items js)) (applied_meta c.args.m D.boundary (statements_of s.items js))) (ap (thesis_in t.trees) (sym c.plain.ensures)) c.in-Ok.ensures.formed)
    (c.in_ok-set.ensures ∙ ap (λ items. insert (met c.args.m) (union (declared_of items c.args.m).set (unions (sets (entries_of items js))))) c.in-Ok.ensures.stays.0))

pub returns-clause-answers : goal.returns-clause-answers
returns-clause-answers c =
    answers_later c.args.k.now c.applied.new.k c.conclude.new.k (by_meta c.args.m c.args.args.now) c.conclude.result c.in-Ok.ensures.stays
    (subst (λ js. Answers c.applied.new.k (by_meta c.args.m js) c.conclude.result c.conclude.new.k) c.in_ok-of.ensures c.conclude.ensures.answers)
