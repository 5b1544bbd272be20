use Rattle.std.proofs.Common.{ap}
use Rattle.ft_judge.specs.Meaning.{thesis_in}
use Rattle.ft_calls.specs.Forming.{plain_in}
use Rattle.ft_calls.proofs.Calling.{wrong_two, refuses_plain_two, answers_plain_two}
use Rattle.ft_nucleus.proofs.Equations.{converts_equation}
use Rattle.ft_nucleus.proofs.Plain.{first_of_conveq, second_of_conveq}
use Rattle.ft_nucleus.proofs.equality.convert_equation.Goals as goal

pub returns-in-Err-clause-answers : goal.returns-in-Err-clause-answers
returns-in-Err-clause-answers c =
    wrong_two converts_equation c.args.k.now c.args.d c.args.e c.in-Err.refusal c.requires.terms c.requires.types c.in-Err.ensures.other c.in-Err.ensures.refused first_of_conveq second_of_conveq

pub returns-in-Err-converted_equation-clause-answers : goal.returns-in-Err-converted_equation-clause-answers
returns-in-Err-converted_equation-clause-answers c =
    refuses_plain_two plain_in converts_equation c.args.k.now c.terms.result.now c.args.d c.args.e c.in-Ok.forms.0 c.in-Ok.forms.1 c.in-Err-converted_equation.refusal
    c.in-Ok.ensures.first c.in-Ok.ensures.second c.terms.ensures.terms c.in-Err-converted_equation.ensures.forms

pub conclude-requires-clause-answer : goal.conclude-requires-clause-answer
conclude-requires-clause-answer c =
    answers_plain_two plain_in converts_equation c.args.k.now c.terms.result.now c.args.d c.args.e c.in-Ok.forms.0 c.in-Ok.forms.1 c.in-Ok-converted_equation.form _ c.asm_of.result.now c.asm_of-2.result.now c.in_ok-set.set
    c.in-Ok.ensures.first c.asm_of.ensures c.in-Ok.ensures.second c.asm_of-2.ensures c.terms.ensures.terms c.in-Ok-converted_equation.ensures.forms
    (ap (thesis_in c.args.k.now.trees) c.plain.ensures) c.in_ok-set.ensures
