use Rattle.std.proofs.Common.{ap, refl, subst, sym, length}
use Rattle.ft_judge.specs.Meaning.{boundary_in, BoundaryBelow}
use Rattle.ft_calls.specs.Forming.{plain_goal_in}
use Rattle.ft_calls.proofs.Calling.{wrong_two, refuses_plain_two, answers_plain_two}
use Rattle.ft_nucleus.proofs.Asking.{asks_types}
use Rattle.ft_nucleus.proofs.Plain.{first_of_beqty, second_of_beqty}
use Rattle.ft_nucleus.proofs.boundaries.boundary_eq_type.Goals as goal

pub returns-in-Err-clause-answers : goal.returns-in-Err-clause-answers
returns-in-Err-clause-answers c =
    wrong_two asks_types c.args.k.now c.args.a c.args.b c.in-Err.refusal c.requires.left c.requires.right c.in-Err.ensures.other c.in-Err.ensures.refused first_of_beqty second_of_beqty

pub returns-in-Err-type_equation_goal-clause-answers : goal.returns-in-Err-type_equation_goal-clause-answers
returns-in-Err-type_equation_goal-clause-answers c =
    let ts = c.args.k.now.trees in
    refuses_plain_two plain_goal_in asks_types c.args.k.now ts c.args.a c.args.b c.in-Ok.forms.0 c.in-Ok.forms.1 c.in-Err-type_equation_goal.refusal
    c.in-Ok.ensures.first c.in-Ok.ensures.second refl (c.in-Err-type_equation_goal.ensures.forms ts)

pub conclude_boundary-requires-clause-below : goal.conclude_boundary-requires-clause-below
conclude_boundary-requires-clause-below c =
    let n = length c.args.k.now.trees in
    subst (BoundaryBelow n) (sym c.plain_boundary.ensures) (tt, c.in-Ok-type_equation_goal.ensures.below n c.in-Ok.ensures.first_below c.in-Ok.ensures.second_below)

pub conclude_boundary-requires-clause-answer : goal.conclude_boundary-requires-clause-answer
conclude_boundary-requires-clause-answer c =
    let ts = c.args.k.now.trees in
    answers_plain_two plain_goal_in asks_types c.args.k.now ts c.args.a c.args.b c.in-Ok.forms.0 c.in-Ok.forms.1 c.in-Ok-type_equation_goal.goal _ c.asm_of.result.now c.asm_of-2.result.now c.in_ok-set.set
    c.in-Ok.ensures.first c.asm_of.ensures c.in-Ok.ensures.second c.asm_of-2.ensures refl (c.in-Ok-type_equation_goal.ensures.forms ts)
    (ap (boundary_in ts) c.plain_boundary.ensures) c.in_ok-set.ensures
