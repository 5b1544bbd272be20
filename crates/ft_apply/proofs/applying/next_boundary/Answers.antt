use Rattle.std.proofs.Common.{◌∙◌, subst, sym, ap, Ok}
use Rattle.ft_items.specs.Sets.{unions}
use Rattle.ft_items.specs.Item.{by_inst}
use Rattle.ft_items.specs.Rows.{sets}
use Rattle.ft_judge.specs.Meaning.{boundary_in}
use Rattle.ft_calls.specs.Answers.{IsAnswer, Answers}
use Rattle.ft_calls.proofs.Answering.{rests}
use Rattle.ft_calls.proofs.Later.{answers_later}
use Rattle.ft_apply.specs.Named.{entries_of, rule_of}
use Rattle.ft_apply.proofs.Fitted.{theses_stay}
use Rattle.ft_apply.proofs.Calls.{formed_answered, formed_fault}
use Rattle.ft_apply.proofs.Instancing.{inst_resolved, inst_kind}
use Rattle.ft_apply.proofs.applying.next_boundary.Goals as goal

pub sets-requires : goal.sets-requires
sets-requires c = theses_stay c.args.k.now c.next_formed.new.k c.args.args.now c.in-Ok.ensures.stays.0 c.requires.arguments

pub returns-in-Err-clause-answers : goal.returns-in-Err-clause-answers
returns-in-Err-clause-answers c =
    let s = c.args.k.now in
    formed_fault s c.next_formed.new.k (by_inst c.args.r c.args.args.now) (by_inst (c.args.r, rule_of s.items c.args.r) (entries_of s.items c.args.args.now)) c.in-Err.fault
    (inst_resolved s c.args.r c.args.args.now c.terms-terms.ensures.good c.requires.rule c.requires.arguments) c.in-Err.ensures.formed c.in-Err.ensures.stays

pub conclude_boundary-requires-clause-answer : goal.conclude_boundary-requires-clause-answer
conclude_boundary-requires-clause-answer c =
    let s = c.args.k.now in
    let t = c.next_formed.new.k in
    let js = c.args.args.now in
    subst (λ js. IsAnswer t (by_inst c.args.r js) (Ok (rests (boundary_in t.trees c.in-Ok.boundary) c.in_ok-set.set))) (sym c.in_ok-of.ensures)
    (formed_answered s t (by_inst c.args.r js) (by_inst (c.args.r, rule_of s.items c.args.r) (entries_of s.items js)) (boundary_in t.trees c.in-Ok.boundary) c.in_ok-set.set c.in-Ok.ensures.stays
    (inst_resolved s c.args.r js c.terms-terms.ensures.good c.requires.rule c.requires.arguments) (inst_kind s c.args.r js c.requires.arguments) c.in-Ok.ensures.formed
    (c.in_ok-set.ensures ∙ ap (λ items. unions (sets (entries_of items js))) c.in-Ok.ensures.stays.0))

pub returns-clause-answers : goal.returns-clause-answers
returns-clause-answers c =
    answers_later c.args.k.now c.next_formed.new.k c.conclude_boundary.new.k (by_inst c.args.r c.args.args.now) c.conclude_boundary.result c.in-Ok.ensures.stays
    (subst (λ js. Answers c.next_formed.new.k (by_inst c.args.r js) c.conclude_boundary.result c.conclude_boundary.new.k) c.in_ok-of.ensures c.conclude_boundary.ensures.answers)
