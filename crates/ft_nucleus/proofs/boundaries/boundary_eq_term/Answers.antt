use Rattle.std.proofs.Common.{ap, inl, inr, ◌∙◌}
use Rattle.ft_items.specs.Sets.{union}
use Rattle.ft_judge.specs.Meaning.{boundary_in}
use Rattle.ft_calls.specs.Forming.{plain_goal_in}
use Rattle.ft_calls.proofs.Calling.{wrong_three, refuses_plain_three, answers_plain_three}
use Rattle.ft_nucleus.proofs.Asking.{asks_terms}
use Rattle.ft_nucleus.proofs.Plain.{first_of_beqtm, second_of_beqtm, third_of_beqtm}
use Rattle.ft_nucleus.proofs.boundaries.boundary_eq_term.Goals as goal

pub returns-in-Err-clause-answers : goal.returns-in-Err-clause-answers
returns-in-Err-clause-answers c =
    wrong_three asks_terms c.args.k.now c.args.ty c.args.s c.args.t c.in-Err.refusal c.requires.ty c.requires.left c.requires.right (inl c.in-Err.ensures.other) c.in-Err.ensures.refused
    first_of_beqtm second_of_beqtm third_of_beqtm

pub returns-in-Err-forms_named-clause-answers : goal.returns-in-Err-forms_named-clause-answers
returns-in-Err-forms_named-clause-answers c =
    wrong_three asks_terms c.args.k.now c.args.ty c.args.s c.args.t c.in-Err-forms_named.refusal c.requires.ty c.requires.left c.requires.right (inr c.in-Err-forms_named.ensures.other) c.in-Err-forms_named.ensures.refused
    first_of_beqtm second_of_beqtm third_of_beqtm

pub returns-in-Err-term_equation_goal-clause-answers : goal.returns-in-Err-term_equation_goal-clause-answers
returns-in-Err-term_equation_goal-clause-answers c =
    refuses_plain_three plain_goal_in asks_terms c.args.k.now c.terms.result.now c.args.ty c.args.s c.args.t c.in-Ok.form c.in-Ok-forms_named.forms.0 c.in-Ok-forms_named.forms.1 c.in-Err-term_equation_goal.refusal
    c.in-Ok.ensures.statement c.in-Ok-forms_named.ensures.first c.in-Ok-forms_named.ensures.second c.terms.ensures.terms c.in-Err-term_equation_goal.ensures.forms

pub conclude_boundary-requires-clause-answer : goal.conclude_boundary-requires-clause-answer
conclude_boundary-requires-clause-answer c =
    answers_plain_three plain_goal_in asks_terms c.args.k.now c.terms.result.now c.args.ty c.args.s c.args.t c.in-Ok.form c.in-Ok-forms_named.forms.0 c.in-Ok-forms_named.forms.1 c.in-Ok-term_equation_goal.goal _
    c.asm_of-3.result.now c.asm_of.result.now c.asm_of-2.result.now c.in_ok-set.set
    c.in-Ok.ensures.statement c.asm_of-3.ensures c.in-Ok-forms_named.ensures.first c.asm_of.ensures c.in-Ok-forms_named.ensures.second c.asm_of-2.ensures
    c.terms.ensures.terms c.in-Ok-term_equation_goal.ensures.forms
    (ap (boundary_in c.args.k.now.trees) c.plain_boundary.ensures) (c.in_ok-set.ensures ∙ ap (union c.asm_of-3.result.now) c.in_ok-terms.ensures)
