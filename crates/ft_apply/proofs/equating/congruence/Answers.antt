use Rattle.std.proofs.Common.{◌∙◌, subst, sym, ap, ap₂, Ok}
use Rattle.ft_items.specs.Sets.{union, unions}
use Rattle.ft_items.specs.Item.{by_cong}
use Rattle.ft_items.specs.Rows.{sets}
use Rattle.ft_judge.specs.Meaning.{thesis_in}
use Rattle.ft_calls.specs.Answers.{IsAnswer, Answers}
use Rattle.ft_calls.specs.Forming.{Gives}
use Rattle.ft_calls.proofs.Answering.{rests}
use Rattle.ft_calls.proofs.Later.{answers_later}
use Rattle.ft_apply.specs.Named.{entries_of, rule_of}
use Rattle.ft_apply.specs.Equations.{congruence_checks_in, congruence_in}
use Rattle.ft_apply.proofs.Fitted.{theses_stay}
use Rattle.ft_apply.proofs.Calls.{formed_answered, formed_fault}
use Rattle.ft_apply.proofs.Congruences.{congruence_step, congruence_kind}
use Rattle.ft_apply.proofs.equating.congruence.Goals as goal

pub sets-requires : goal.sets-requires
sets-requires c = theses_stay c.args.k.now c.congruence_formed.new.k c.args.args.now c.in-Ok.ensures.stays.0 c.requires.arguments

pub sets-requires-2 : goal.sets-requires-2
sets-requires-2 c = theses_stay c.args.k.now c.congruence_formed.new.k c.args.equations.now c.in-Ok.ensures.stays.0 c.requires.equations

pub returns-in-Err-clause-answers : goal.returns-in-Err-clause-answers
returns-in-Err-clause-answers c =
    let s = c.args.k.now in
    let js = c.args.args.now in
    let ks = c.args.equations.now in
    formed_fault s c.congruence_formed.new.k (by_cong c.args.r js ks) (by_cong (c.args.r, rule_of s.items c.args.r) (entries_of s.items js) (entries_of s.items ks)) c.in-Err.fault
    (congruence_step s c.args.r js ks c.terms-terms.ensures.good c.requires.rule c.requires.arguments c.requires.equations) c.in-Err.ensures.formed c.in-Err.ensures.stays

pub conclude-requires-clause-answer : goal.conclude-requires-clause-answer
conclude-requires-clause-answer c =
    let s = c.args.k.now in
    let t = c.congruence_formed.new.k in
    let js = c.args.args.now in
    let ks = c.args.equations.now in
    let x = thesis_in t.trees c.plain.result in
    subst (λ ks. IsAnswer t (by_cong c.args.r c.in_ok-lefts.lefts ks) (Ok (rests x c.in_ok-set.set))) (sym c.in_ok-rights.ensures)
    (subst (λ js. IsAnswer t (by_cong c.args.r js ks) (Ok (rests x c.in_ok-set.set))) (sym c.in_ok-lefts.ensures)
    (formed_answered s t (by_cong c.args.r js ks) (by_cong (c.args.r, rule_of s.items c.args.r) (entries_of s.items js) (entries_of s.items ks)) x c.in_ok-set.set c.in-Ok.ensures.stays
    (congruence_step s c.args.r js ks c.terms-terms.ensures.good c.requires.rule c.requires.arguments c.requires.equations) (congruence_kind s c.args.r js ks c.requires.arguments c.requires.equations)
    (subst (Gives (congruence_checks_in s.items c.args.r js ks) (congruence_in s.items c.args.r js ks)) (ap (thesis_in t.trees) (sym c.plain.ensures)) c.in-Ok.ensures.formed)
    (c.in_ok-set.ensures
    ∙ ap₂ union c.in_ok-left.ensures c.in_ok-right.ensures
    ∙ ap (λ items. union (unions (sets (entries_of items js))) (unions (sets (entries_of items ks)))) c.in-Ok.ensures.stays.0)))

pub returns-clause-answers : goal.returns-clause-answers
returns-clause-answers c =
    let t = c.congruence_formed.new.k in
    let u = c.conclude.new.k in
    answers_later c.args.k.now t u (by_cong c.args.r c.args.args.now c.args.equations.now) c.conclude.result c.in-Ok.ensures.stays
    (subst (λ js. Answers t (by_cong c.args.r js c.args.equations.now) c.conclude.result u) c.in_ok-lefts.ensures
    (subst (λ ks. Answers t (by_cong c.args.r c.in_ok-lefts.lefts ks) c.conclude.result u) c.in_ok-rights.ensures c.conclude.ensures.answers))
