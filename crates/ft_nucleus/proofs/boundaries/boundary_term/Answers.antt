use Rattle.std.proofs.Common.{ap, subst, sym, length}
use Rattle.ft_judge.specs.Meaning.{boundary_in, BoundaryBelow}
use Rattle.ft_calls.specs.Forming.{plain_in, plain_goal_in}
use Rattle.ft_calls.proofs.Calling.{wrong_one, refuses_one, answers_plain_one}
use Rattle.ft_nucleus.proofs.Asking.{asks_term}
use Rattle.ft_nucleus.proofs.Plain.{only_of_bterm}
use Rattle.ft_nucleus.proofs.boundaries.boundary_term.Goals as goal

pub returns-in-Err-clause-answers : goal.returns-in-Err-clause-answers
returns-in-Err-clause-answers c = wrong_one asks_term c.args.k.now c.args.ty c.in-Err.refusal c.in-Err.ensures.other c.in-Err.ensures.refused only_of_bterm

pub returns-in-Err-term_goal-clause-answers : goal.returns-in-Err-term_goal-clause-answers
returns-in-Err-term_goal-clause-answers c =
    refuses_one asks_term c.args.k.now c.args.ty (plain_in c.args.k.now.trees c.in-Ok.form) c.in-Err-term_goal.refusal c.in-Ok.ensures.statement (c.in-Err-term_goal.ensures.forms c.args.k.now.trees)

pub conclude_boundary-requires-clause-below : goal.conclude_boundary-requires-clause-below
conclude_boundary-requires-clause-below c =
    let n = length c.args.k.now.trees in
    subst (BoundaryBelow n) (sym c.plain_boundary.ensures) (tt, c.in-Ok-term_goal.ensures.below n c.in-Ok.ensures.below)

pub conclude_boundary-requires-clause-answer : goal.conclude_boundary-requires-clause-answer
conclude_boundary-requires-clause-answer c =
    answers_plain_one plain_goal_in asks_term c.args.k.now c.args.ty c.in-Ok.form c.in-Ok-term_goal.goal _ c.asm_of.result.now c.in_ok-set.set
    c.in-Ok.ensures.statement c.asm_of.ensures (c.in-Ok-term_goal.ensures.forms c.args.k.now.trees)
    (ap (boundary_in c.args.k.now.trees) c.plain_boundary.ensures) c.in_ok-set.ensures
