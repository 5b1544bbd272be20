use Rattle.std.proofs.Common.{subst, sym}
use Rattle.std.specs.Prelude.{Ok}
use Rattle.ft_items.specs.Item.{by_arg}
use Rattle.ft_syntax.specs.Table.{tree}
use Rattle.ft_judge.specs.Meaning.{thesis_in}
use Rattle.ft_calls.specs.Answers.{IsAnswer}
use Rattle.ft_calls.proofs.Answering.{rests}
use Rattle.ft_calls.proofs.Later.{AreSmallTrees, thesis_small}
use Rattle.ft_parts.proofs.Found.{argument_refused, argument_fault, argument_given}
use Rattle.ft_parts.proofs.arguments.argument.Goals as goal

pub returns-in-Err-clause-answers : goal.returns-in-Err-clause-answers
returns-in-Err-clause-answers c = argument_refused c.args.k.now c.args.i c.args.j c.in-Err.refusal c.in-Err.ensures.other c.in-Err.ensures.refused

pub returns-in-Err-argument_at-clause-answers : goal.returns-in-Err-argument_at-clause-answers
returns-in-Err-argument_at-clause-answers c =
    argument_fault c.args.k.now c.argument_at.new.k c.args.i c.args.j (tree c.args.k.now.trees c.in-Ok.e) c.in-Err-argument_at.fault c.in-Ok.ensures.states c.in-Err-argument_at.ensures.finds c.in-Err-argument_at.ensures.stays

pub conclude-requires-clause-answer : goal.conclude-requires-clause-answer
conclude-requires-clause-answer c =
    let s = c.args.k.now in
    let t = c.argument_at.new.k in
    let y = c.in-Ok-argument_at.thesis in
    let small : AreSmallTrees t.trees = subst AreSmallTrees c.terms.ensures.terms c.are_small.ensures in
    subst (λ S. IsAnswer t (by_arg c.args.i c.args.j) (Ok (rests (thesis_in t.trees y) S))) (sym c.in_ok-set.ensures)
    (argument_given s t c.args.i c.args.j (tree s.trees c.in-Ok.e) (thesis_in t.trees y) c.asm_of.result.now c.in-Ok.ensures.states c.asm_of.ensures c.in-Ok-argument_at.ensures.finds
    (thesis_small t.trees y small c.in-Ok-argument_at.ensures.within) c.in-Ok-argument_at.ensures.stays)
