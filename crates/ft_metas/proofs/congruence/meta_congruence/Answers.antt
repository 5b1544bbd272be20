use Rattle.std.proofs.Common.{◌<◌, ◌∙◌, length, subst, sym, ap, Ok}
use Rattle.ft_items.specs.Sets.{met, insert, union, unions}
use Rattle.ft_items.specs.Item.{by_metacong}
use Rattle.ft_items.specs.Store.{metavariables_in}
use Rattle.ft_items.specs.Rows.{sets, meta_congruence}
use Rattle.ft_reference.specs.Checks.{meta_congruence_checks}
use Rattle.ft_judge.specs.Meaning.{thesis_in}
use Rattle.ft_calls.specs.Answers.{IsAnswer, Answers}
use Rattle.ft_calls.specs.Forming.{Gives}
use Rattle.ft_calls.proofs.Answering.{rests}
use Rattle.ft_calls.proofs.Later.{answers_later}
use Rattle.ft_metas.specs.Named.{entries_of, statements_of, declared_of}
use Rattle.ft_metas.proofs.Naming.{theses_stay}
use Rattle.ft_metas.proofs.Calls.{formed_answered, formed_fault, congruence_step, congruence_kind}
use Rattle.ft_metas.proofs.congruence.meta_congruence.Goals as goal

pub set_at-requires-clause-metavariable : goal.set_at-requires-clause-metavariable
set_at-requires-clause-metavariable c = subst (λ items. c.args.m < length (metavariables_in items)) (sym c.in-Ok.ensures.stays.0) c.requires.metavariable

pub set_at-requires-clause-arguments : goal.set_at-requires-clause-arguments
set_at-requires-clause-arguments c = theses_stay c.args.k.now c.congruent.new.k c.args.es.now c.in-Ok.ensures.stays.0 c.requires.equations

pub returns-in-Err-clause-answers : goal.returns-in-Err-clause-answers
returns-in-Err-clause-answers c =
    let s = c.args.k.now in
    formed_fault s c.congruent.new.k (by_metacong c.args.m c.args.es.now) (by_metacong (c.args.m, declared_of s.items c.args.m) (entries_of s.items c.args.es.now)) c.in-Err.fault
    (congruence_step s c.args.m c.args.es.now c.terms-terms.ensures.good c.requires.metavariable c.requires.equations) c.in-Err.ensures.formed c.in-Err.ensures.stays

pub conclude-requires-clause-answer : goal.conclude-requires-clause-answer
conclude-requires-clause-answer c =
    let s = c.args.k.now in
    let t = c.congruent.new.k in
    let js = c.args.es.now in
    let D = declared_of s.items c.args.m in
    let x = thesis_in t.trees c.plain.result in
    subst (λ js. IsAnswer t (by_metacong c.args.m js) (Ok (rests x c.in_ok-set.set))) (sym c.in_ok-of.ensures)
    (formed_answered s t (by_metacong c.args.m js) (by_metacong (c.args.m, D) (entries_of s.items js)) x c.in_ok-set.set c.in-Ok.ensures.stays
    (congruence_step s c.args.m js c.terms-terms.ensures.good c.requires.metavariable c.requires.equations) (congruence_kind s c.args.m js c.requires.equations)
    (subst (Gives (meta_congruence_checks c.args.m D.boundary (statements_of s.items js)) (meta_congruence c.args.m D.boundary (statements_of s.items js))) (ap (thesis_in t.trees) (sym c.plain.ensures)) c.in-Ok.ensures.formed)
    (c.in_ok-set.ensures ∙ ap (λ items. insert (met c.args.m) (union (declared_of items c.args.m).set (unions (sets (entries_of items js))))) c.in-Ok.ensures.stays.0))

pub returns-clause-answers : goal.returns-clause-answers
returns-clause-answers c =
    answers_later c.args.k.now c.congruent.new.k c.conclude.new.k (by_metacong c.args.m c.args.es.now) c.conclude.result c.in-Ok.ensures.stays
    (subst (λ js. Answers c.congruent.new.k (by_metacong c.args.m js) c.conclude.result c.conclude.new.k) c.in_ok-of.ensures c.conclude.ensures.answers)
