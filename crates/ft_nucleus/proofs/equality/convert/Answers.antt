use Rattle.std.proofs.Common.{ap}
use Rattle.ft_judge.specs.Meaning.{thesis_in}
use Rattle.ft_calls.specs.Forming.{plain_in}
use Rattle.ft_calls.proofs.Calling.{wrong_two, refuses_plain_two, answers_plain_two}
use Rattle.ft_nucleus.proofs.Equations.{converts}
use Rattle.ft_nucleus.proofs.Plain.{first_of_conv, second_of_conv}
use Rattle.ft_nucleus.proofs.equality.convert.Goals as goal

pub returns-in-Err-clause-answers : goal.returns-in-Err-clause-answers
returns-in-Err-clause-answers c =
    wrong_two converts c.args.k.now c.args.t c.args.e c.in-Err.refusal c.requires.term c.requires.equation c.in-Err.ensures.other c.in-Err.ensures.refused first_of_conv second_of_conv

pub returns-in-Err-converted-clause-answers : goal.returns-in-Err-converted-clause-answers
returns-in-Err-converted-clause-answers c =
    refuses_plain_two plain_in converts c.args.k.now c.terms.result.now c.args.t c.args.e c.in-Ok.forms.0 c.in-Ok.forms.1 c.in-Err-converted.refusal
    c.in-Ok.ensures.first c.in-Ok.ensures.second c.terms.ensures.terms c.in-Err-converted.ensures.forms

pub conclude-requires-clause-answer : goal.conclude-requires-clause-answer
conclude-requires-clause-answer c =
    answers_plain_two plain_in converts c.args.k.now c.terms.result.now c.args.t c.args.e c.in-Ok.forms.0 c.in-Ok.forms.1 c.in-Ok-converted.form _ c.asm_of.result.now c.asm_of-2.result.now c.in_ok-set.set
    c.in-Ok.ensures.first c.asm_of.ensures c.in-Ok.ensures.second c.asm_of-2.ensures c.terms.ensures.terms c.in-Ok-converted.ensures.forms
    (ap (thesis_in c.args.k.now.trees) c.plain.ensures) c.in_ok-set.ensures
