use Rattle.std.proofs.Common.{◌∙◌, subst, sym, ap, Ok}
use Rattle.ft_items.specs.Sets.{unions}
use Rattle.ft_items.specs.Item.{by_rule}
use Rattle.ft_items.specs.Rows.{sets, rule_instance}
use Rattle.ft_reference.specs.Checks.{rule_checks}
use Rattle.ft_judge.specs.Meaning.{thesis_in}
use Rattle.ft_calls.specs.Answers.{IsAnswer, Answers}
use Rattle.ft_calls.specs.Forming.{Gives}
use Rattle.ft_calls.proofs.Answering.{rests}
use Rattle.ft_calls.proofs.Later.{answers_later}
use Rattle.ft_apply.specs.Named.{entries_of, statements_of, rule_of}
use Rattle.ft_apply.proofs.Fitted.{theses_stay}
use Rattle.ft_apply.proofs.Calls.{formed_answered, formed_fault}
use Rattle.ft_apply.proofs.Concluded.{rule_step, rule_kind}
use Rattle.ft_apply.proofs.applying.apply.Goals as goal

pub sets-requires : goal.sets-requires
sets-requires c = theses_stay c.args.k.now c.applied_formed.new.k c.args.args.now c.in-Ok.ensures.stays.0 c.requires.arguments

pub returns-in-Err-clause-answers : goal.returns-in-Err-clause-answers
returns-in-Err-clause-answers c =
    let s = c.args.k.now in
    formed_fault s c.applied_formed.new.k (by_rule c.args.r c.args.args.now) (by_rule (c.args.r, rule_of s.items c.args.r) (entries_of s.items c.args.args.now)) c.in-Err.fault
    (rule_step s c.args.r c.args.args.now c.terms-terms.ensures.good c.requires.rule c.requires.arguments) c.in-Err.ensures.formed c.in-Err.ensures.stays

pub conclude-requires-clause-answer : goal.conclude-requires-clause-answer
conclude-requires-clause-answer c =
    let s = c.args.k.now in
    let t = c.applied_formed.new.k in
    let js = c.args.args.now in
    let x = thesis_in t.trees c.plain.result in
    subst (λ js. IsAnswer t (by_rule c.args.r js) (Ok (rests x c.in_ok-set.set))) (sym c.in_ok-of.ensures)
    (formed_answered s t (by_rule c.args.r js) (by_rule (c.args.r, rule_of s.items c.args.r) (entries_of s.items js)) x c.in_ok-set.set c.in-Ok.ensures.stays
    (rule_step s c.args.r js c.terms-terms.ensures.good c.requires.rule c.requires.arguments) (rule_kind s c.args.r js c.requires.arguments)
    (subst (Gives (rule_checks c.args.r (rule_of s.items c.args.r) (statements_of s.items js)) (rule_instance c.args.r (rule_of s.items c.args.r) (statements_of s.items js))) (ap (thesis_in t.trees) (sym c.plain.ensures)) c.in-Ok.ensures.formed)
    (c.in_ok-set.ensures ∙ ap (λ items. unions (sets (entries_of items js))) c.in-Ok.ensures.stays.0))

pub returns-clause-answers : goal.returns-clause-answers
returns-clause-answers c =
    answers_later c.args.k.now c.applied_formed.new.k c.conclude.new.k (by_rule c.args.r c.args.args.now) c.conclude.result c.in-Ok.ensures.stays
    (subst (λ js. Answers c.applied_formed.new.k (by_rule c.args.r js) c.conclude.result c.conclude.new.k) c.in_ok-of.ensures c.conclude.ensures.answers)
