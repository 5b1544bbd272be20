use Rattle.std.proofs.Common.{◌∙◌, ap, subst, sym, refl}
use Rattle.std.specs.Prelude.{Ok, Err}
use Rattle.ft_theory.specs.Statements.{opened}
use Rattle.ft_items.specs.Item.{by_subst}
use Rattle.ft_syntax.specs.Table.{tree}
use Rattle.ft_judge.specs.Meaning.{goal_in, boundary_in, thesis_in}
use Rattle.ft_judge.specs.Moving.{IsSmallStatement}
use Rattle.ft_calls.proofs.Declared.{stays_same}
use Rattle.ft_calls.proofs.Later.{AreSmallTrees, answer_before, answers_later, boundary_small}
use Rattle.ft_nucleus.proofs.Substituting.{puts, puts_not, found_in, opened_not}
use Rattle.ft_nucleus.proofs.substitution.substitute_boundary.Goals as goal

pub returns-in-Err-clause-answers : goal.returns-in-Err-clause-answers
returns-in-Err-clause-answers c =
    let s = c.args.k.now in
    let x = c.boundary_at-x.result.now in
    let y = c.thesis_of.result.now in
    puts_not s s c.args.b c.args.t (boundary_in s.trees x) (thesis_in s.trees y) c.in-Err.refusal c.boundary_at-x.ensures.boundary c.thesis_of.ensures.thesis (stays_same s s refl)
    (found_in s.trees c.terms.result.now x.domains c.items.result.now y (Err c.in-Err.refusal) c.terms.ensures.terms c.items.ensures c.in-Err.ensures.finds (goal_in s.trees x.goal))

pub returns-in-Err-open_first_boundary-clause-answers : goal.returns-in-Err-open_first_boundary-clause-answers
returns-in-Err-open_first_boundary-clause-answers c =
    let s = c.args.k.now in
    let t = c.open_first_boundary.new.self in
    let x = c.boundary_at-x.result.now in
    let y = c.thesis_of.result.now in
    let T = tree s.trees c.in-Ok.term in
    opened_not s t c.args.b c.args.t (boundary_in s.trees x) (thesis_in s.trees y) T c.in-Err-open_first_boundary.fault c.from.result c.boundary_at-x.ensures.boundary c.thesis_of.ensures.thesis
    (c.open_first_boundary.ensures.items, c.open_first_boundary.ensures.goes_on)
    (found_in s.trees c.terms.result.now x.domains c.items.result.now y (Ok c.in-Ok.term) c.terms.ensures.terms c.items.ensures c.in-Ok.ensures.finds (goal_in s.trees x.goal))
    c.from.ensures (λ e small. c.in-Err-open_first_boundary.ensures.too_big e (subst (λ z. IsSmallStatement (opened T (boundary_in s.trees z))) (sym c.in_ok-x.ensures) small))

pub conclude_boundary-requires-clause-answer : goal.conclude_boundary-requires-clause-answer
conclude_boundary-requires-clause-answer c =
    let s = c.args.k.now in
    let t = c.open_first_boundary.new.self in
    let x = c.boundary_at-x.result.now in
    let y = c.thesis_of.result.now in
    let T = tree s.trees c.in-Ok.term in
    answer_before s t (by_subst c.args.b c.args.t) _ c.open_first_boundary.ensures.items
    (puts s c.args.b c.args.t (boundary_in s.trees x) (thesis_in s.trees y) (boundary_in t.trees c.in-Ok-open_first_boundary.opened) T c.set_of.result.now c.asm_of.result.now c.in_ok-set.set
    c.boundary_at-x.ensures.boundary c.set_of.ensures c.requires.term c.thesis_of.ensures.thesis c.asm_of.ensures
    (found_in s.trees c.terms.result.now x.domains c.items.result.now y (Ok c.in-Ok.term) c.terms.ensures.terms c.items.ensures c.in-Ok.ensures.finds (goal_in s.trees x.goal))
    (c.in-Ok-open_first_boundary.ensures.boundary ∙ ap (λ z. opened T (boundary_in s.trees z)) c.in_ok-x.ensures)
    (boundary_small t.trees c.in-Ok-open_first_boundary.opened (subst AreSmallTrees c.terms-2.ensures.terms c.are_small.ensures) c.in-Ok-open_first_boundary.ensures.within)
    c.in_ok-set.ensures)

pub returns-clause-answers : goal.returns-clause-answers
returns-clause-answers c =
    answers_later c.args.k.now c.open_first_boundary.new.self c.conclude_boundary.new.k (by_subst c.args.b c.args.t) c.conclude_boundary.result (c.open_first_boundary.ensures.items, c.open_first_boundary.ensures.goes_on) c.conclude_boundary.ensures.answers
