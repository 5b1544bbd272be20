use Rattle.std.proofs.Common.{subst, sym}
use Rattle.std.specs.Prelude.{Ok}
use Rattle.ft_items.specs.Item.{by_natural}
use Rattle.ft_judge.specs.Meaning.{thesis_in}
use Rattle.ft_calls.specs.Answers.{IsAnswer}
use Rattle.ft_calls.proofs.Answering.{rests}
use Rattle.ft_calls.proofs.Later.{AreSmallTrees, answers_later}
use Rattle.ft_parts.proofs.Told.{natural_refused, natural_fault, natural_given}
use Rattle.ft_parts.proofs.types.natural.Goals as goal

pub returns-in-Err-clause-answers : goal.returns-in-Err-clause-answers
returns-in-Err-clause-answers c = natural_refused c.args.k.now c.args.j c.in-Err.refusal c.in-Err.ensures.other c.in-Err.ensures.refused

pub returns-in-Err-natural_type-clause-answers : goal.returns-in-Err-natural_type-clause-answers
returns-in-Err-natural_type-clause-answers c =
    natural_fault c.args.k.now c.natural_type.new.k c.args.j _ _ c.in-Err-natural_type.fault c.in-Ok.ensures.statement c.in-Err-natural_type.ensures.finds c.in-Err-natural_type.ensures.stays

pub conclude-requires-clause-answer : goal.conclude-requires-clause-answer
conclude-requires-clause-answer c =
    let s = c.args.k.now in
    let t = c.natural_type.new.k in
    let n = c.in-Ok-natural_type.natural in
    let small : AreSmallTrees t.trees = subst AreSmallTrees c.terms.ensures.terms c.are_small.ensures in
    subst (λ S. IsAnswer t (by_natural c.args.j) (Ok (rests (thesis_in t.trees c.plain-thesis.result) S))) (sym c.in_ok-set.ensures)
    (subst (λ x. IsAnswer t (by_natural c.args.j) (Ok (rests (thesis_in t.trees x) c.asm_of.result.now))) (sym c.plain-thesis.ensures)
    (natural_given s t c.args.j n _ _ c.asm_of.result.now c.in-Ok.ensures.statement c.asm_of.ensures c.in-Ok-natural_type.ensures.finds
    (small n c.in-Ok-natural_type.ensures.within) c.in-Ok-natural_type.ensures.stays c.in-Ok.ensures.ty))

pub returns-clause-answers : goal.returns-clause-answers
returns-clause-answers c = answers_later c.args.k.now c.natural_type.new.k c.conclude.new.k (by_natural c.args.j) c.conclude.result c.in-Ok-natural_type.ensures.stays c.conclude.ensures.answers
