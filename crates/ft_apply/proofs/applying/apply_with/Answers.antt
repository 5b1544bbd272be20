use Rattle.std.proofs.Common.{◌∙◌, subst, sym, ap, ap₂, Ok}
use Rattle.ft_items.specs.Sets.{union, unions}
use Rattle.ft_items.specs.Item.{by_rulewith}
use Rattle.ft_items.specs.Rows.{sets, rule_instance_with}
use Rattle.ft_reference.specs.Checks.{rule_with_checks}
use Rattle.ft_judge.specs.Meaning.{thesis_in}
use Rattle.ft_calls.specs.Answers.{IsAnswer, Answers}
use Rattle.ft_calls.specs.Forming.{Gives}
use Rattle.ft_calls.proofs.Answering.{rests}
use Rattle.ft_calls.proofs.Later.{answers_later}
use Rattle.ft_apply.specs.Named.{entry_of, entries_of, statements_of, rule_of}
use Rattle.ft_apply.proofs.Naming.{set_found}
use Rattle.ft_apply.proofs.Fitted.{theses_stay, boundary_stays}
use Rattle.ft_apply.proofs.Calls.{formed_answered, formed_fault}
use Rattle.ft_apply.proofs.Concluded.{with_step, with_kind}
use Rattle.ft_apply.proofs.applying.apply_with.Goals as goal

pub set_of-requires : goal.set_of-requires
set_of-requires c = boundary_stays c.args.k.now c.applied_with_formed.new.k c.args.b c.in-Ok.ensures.stays.0 c.requires.boundary

pub sets-requires : goal.sets-requires
sets-requires c = theses_stay c.args.k.now c.applied_with_formed.new.k c.args.args.now c.in-Ok.ensures.stays.0 c.requires.arguments

pub returns-in-Err-clause-answers : goal.returns-in-Err-clause-answers
returns-in-Err-clause-answers c =
    let s = c.args.k.now in
    formed_fault s c.applied_with_formed.new.k (by_rulewith c.args.r c.args.b c.args.args.now) (by_rulewith (c.args.r, rule_of s.items c.args.r) (entry_of s.items c.args.b) (entries_of s.items c.args.args.now)) c.in-Err.fault
    (with_step s c.args.r c.args.b c.args.args.now c.terms-terms.ensures.good c.requires.rule c.requires.boundary c.requires.arguments) c.in-Err.ensures.formed c.in-Err.ensures.stays

pub conclude-requires-clause-answer : goal.conclude-requires-clause-answer
conclude-requires-clause-answer c =
    let s = c.args.k.now in
    let t = c.applied_with_formed.new.k in
    let js = c.args.args.now in
    let b = entry_of s.items c.args.b in
    let x = thesis_in t.trees c.plain.result in
    subst (λ js. IsAnswer t (by_rulewith c.args.r c.args.b js) (Ok (rests x c.in_ok-set.set))) (sym c.in_ok-of.ensures)
    (formed_answered s t (by_rulewith c.args.r c.args.b js) (by_rulewith (c.args.r, rule_of s.items c.args.r) b (entries_of s.items js)) x c.in_ok-set.set c.in-Ok.ensures.stays
    (with_step s c.args.r c.args.b js c.terms-terms.ensures.good c.requires.rule c.requires.boundary c.requires.arguments) (with_kind s c.args.r c.args.b js c.requires.boundary c.requires.arguments)
    (subst (Gives (rule_with_checks c.args.r (rule_of s.items c.args.r) b.statement (statements_of s.items js)) (rule_instance_with c.args.r (rule_of s.items c.args.r) b.statement (statements_of s.items js))) (ap (thesis_in t.trees) (sym c.plain.ensures)) c.in-Ok.ensures.formed)
    (c.in_ok-set.ensures
    ∙ ap₂ union (sym (set_found t c.args.b c.set_of.result.now c.set_of.ensures)) c.in_ok-sets.ensures
    ∙ ap (λ items. union (entry_of items c.args.b).set (unions (sets (entries_of items js)))) c.in-Ok.ensures.stays.0))

pub returns-clause-answers : goal.returns-clause-answers
returns-clause-answers c =
    answers_later c.args.k.now c.applied_with_formed.new.k c.conclude.new.k (by_rulewith c.args.r c.args.b c.args.args.now) c.conclude.result c.in-Ok.ensures.stays
    (subst (λ js. Answers c.applied_with_formed.new.k (by_rulewith c.args.r c.args.b js) c.conclude.result c.conclude.new.k) c.in_ok-of.ensures c.conclude.ensures.answers)
