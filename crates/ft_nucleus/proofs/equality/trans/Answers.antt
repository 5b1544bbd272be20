use Rattle.std.proofs.Common.{ap}
use Rattle.ft_judge.specs.Meaning.{thesis_in}
use Rattle.ft_calls.specs.Forming.{plain_in}
use Rattle.ft_calls.proofs.Calling.{wrong_two, refuses_plain_two, answers_plain_two}
use Rattle.ft_nucleus.proofs.Equations.{transitive}
use Rattle.ft_nucleus.proofs.Plain.{first_of_trans, second_of_trans}
use Rattle.ft_nucleus.proofs.equality.trans.Goals as goal

pub returns-in-Err-clause-answers : goal.returns-in-Err-clause-answers
returns-in-Err-clause-answers c =
    wrong_two transitive c.args.k.now c.args.e c.args.f c.in-Err.refusal c.requires.first c.requires.second c.in-Err.ensures.other c.in-Err.ensures.refused first_of_trans second_of_trans

pub returns-in-Err-chained-clause-answers : goal.returns-in-Err-chained-clause-answers
returns-in-Err-chained-clause-answers c =
    refuses_plain_two plain_in transitive c.args.k.now c.terms.result.now c.args.e c.args.f c.in-Ok.forms.0 c.in-Ok.forms.1 c.in-Err-chained.refusal
    c.in-Ok.ensures.first c.in-Ok.ensures.second c.terms.ensures.terms c.in-Err-chained.ensures.forms

pub conclude-requires-clause-answer : goal.conclude-requires-clause-answer
conclude-requires-clause-answer c =
    answers_plain_two plain_in transitive c.args.k.now c.terms.result.now c.args.e c.args.f c.in-Ok.forms.0 c.in-Ok.forms.1 c.in-Ok-chained.form _ c.asm_of.result.now c.asm_of-2.result.now c.in_ok-set.set
    c.in-Ok.ensures.first c.asm_of.ensures c.in-Ok.ensures.second c.asm_of-2.ensures c.terms.ensures.terms c.in-Ok-chained.ensures.forms
    (ap (thesis_in c.args.k.now.trees) c.plain.ensures) c.in_ok-set.ensures
