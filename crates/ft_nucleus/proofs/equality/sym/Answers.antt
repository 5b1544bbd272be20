use Rattle.std.proofs.Common.{ap, subst, sym, length}
use Rattle.ft_judge.specs.Meaning.{thesis_in, ThesisBelow}
use Rattle.ft_calls.specs.Forming.{plain_in}
use Rattle.ft_calls.proofs.Calling.{wrong_one, refuses_one, answers_plain_one}
use Rattle.ft_nucleus.proofs.Equations.{symmetric}
use Rattle.ft_nucleus.proofs.Plain.{only_of_sym}
use Rattle.ft_nucleus.proofs.equality.sym.Goals as goal

pub returns-in-Err-clause-answers : goal.returns-in-Err-clause-answers
returns-in-Err-clause-answers c = wrong_one symmetric c.args.k.now c.args.e c.in-Err.refusal c.in-Err.ensures.other c.in-Err.ensures.refused only_of_sym

pub returns-in-Err-swapped-clause-answers : goal.returns-in-Err-swapped-clause-answers
returns-in-Err-swapped-clause-answers c =
    refuses_one symmetric c.args.k.now c.args.e (plain_in c.args.k.now.trees c.in-Ok.form) c.in-Err-swapped.refusal c.in-Ok.ensures.statement (c.in-Err-swapped.ensures.forms c.args.k.now.trees)

pub conclude-requires-clause-answer : goal.conclude-requires-clause-answer
conclude-requires-clause-answer c =
    answers_plain_one plain_in symmetric c.args.k.now c.args.e c.in-Ok.form c.in-Ok-swapped.form _ c.asm_of.result.now c.in_ok-set.set
    c.in-Ok.ensures.statement c.asm_of.ensures (c.in-Ok-swapped.ensures.forms c.args.k.now.trees)
    (ap (thesis_in c.args.k.now.trees) c.plain.ensures) c.in_ok-set.ensures

pub conclude-requires-clause-below : goal.conclude-requires-clause-below
conclude-requires-clause-below c =
    let n = length c.args.k.now.trees in
    subst (ThesisBelow n) (sym c.plain.ensures) (tt, c.in-Ok-swapped.ensures.below n c.in-Ok.ensures.below)
