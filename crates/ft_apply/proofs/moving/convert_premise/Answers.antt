use Rattle.std.proofs.Common.{◌∙◌, subst, sym, ap, ap₂, Ok}
use Rattle.ft_items.specs.Sets.{union}
use Rattle.ft_judge.specs.Meaning.{thesis_in}
use Rattle.ft_calls.specs.Answers.{IsAnswer, Answers}
use Rattle.ft_calls.proofs.Answering.{rests}
use Rattle.ft_calls.proofs.Later.{answers_later}
use Rattle.ft_apply.specs.Equations.{conversion_step}
use Rattle.ft_apply.proofs.Naming.{set_found}
use Rattle.ft_apply.proofs.Fitted.{theses_stay}
use Rattle.ft_apply.proofs.Moved.{thesis_stays, conversion_set, conversion_answer, conversion_fault}
use Rattle.ft_apply.proofs.moving.convert_premise.Goals as goal

pub sets-requires : goal.sets-requires
sets-requires c = theses_stay c.args.k.now c.converted.new.k c.args.args.now c.in-Ok.ensures.stays.0 c.requires.arguments

pub sets-requires-2 : goal.sets-requires-2
sets-requires-2 c = theses_stay c.args.k.now c.converted.new.k c.args.equations.now c.in-Ok.ensures.stays.0 c.requires.equations

pub asm_of-requires : goal.asm_of-requires
asm_of-requires c = thesis_stays c.args.k.now c.converted.new.k c.args.arg c.in-Ok.ensures.stays.0 c.requires.argument

pub returns-in-Err-clause-answers : goal.returns-in-Err-clause-answers
returns-in-Err-clause-answers c =
    conversion_fault c.args.back c.args.k.now c.converted.new.k c.args.r c.args.args.now c.args.equations.now c.args.arg c.in-Err.fault c.terms-terms.ensures.good c.requires.rule c.requires.arguments c.requires.equations c.requires.argument
    c.in-Err.ensures.formed c.in-Err.ensures.stays

pub conclude-requires-clause-answer : goal.conclude-requires-clause-answer
conclude-requires-clause-answer c =
    let s = c.args.k.now in
    let t = c.converted.new.k in
    let js = c.args.args.now in
    let ks = c.args.equations.now in
    let x = thesis_in t.trees c.in-Ok.thesis in
    subst (λ n. IsAnswer t n (Ok (rests x c.in_ok-set.set))) (sym (c.conversion.ensures ∙ ap₂ (λ js ks. conversion_step c.args.back c.args.r js ks c.args.arg) c.in_ok-lefts.ensures c.in_ok-rights.ensures))
    (conversion_answer c.args.back s t c.args.r js ks c.args.arg x c.in_ok-set.set c.terms-terms.ensures.good c.requires.rule c.requires.arguments c.requires.equations c.requires.argument c.in-Ok.ensures.stays c.in-Ok.ensures.formed
    (c.in_ok-set.ensures
    ∙ ap₂ union c.in_ok-left.ensures (c.in_ok-joined.ensures ∙ ap₂ union c.in_ok-right.ensures (sym (set_found t c.args.arg c.asm_of.result.now c.asm_of.ensures)))
    ∙ ap (λ items. conversion_set items js ks c.args.arg) c.in-Ok.ensures.stays.0))

pub returns-clause-answers : goal.returns-clause-answers
returns-clause-answers c =
    let t = c.converted.new.k in
    let u = c.conclude.new.k in
    answers_later c.args.k.now t u (conversion_step c.args.back c.args.r c.args.args.now c.args.equations.now c.args.arg) c.conclude.result c.in-Ok.ensures.stays
    (subst (λ n. Answers t n c.conclude.result u) (c.conversion.ensures ∙ ap₂ (λ js ks. conversion_step c.args.back c.args.r js ks c.args.arg) c.in_ok-lefts.ensures c.in_ok-rights.ensures) c.conclude.ensures.answers)
