use Rattle.std.proofs.Common.{◌≡◌, ◌∙◌, ap, ap₂, sym}
use Rattle.std.proofs.lemmas.Option.{same_Some}
use Rattle.ft_theory.specs.Statements.{abstracted, close_statement}
use Rattle.ft_items.specs.Item.{by_abs}
use Rattle.ft_items.specs.Sets.{var, union, without}
use Rattle.ft_items.specs.Store.{declared_by}
use Rattle.ft_reference.specs.Checks.{first_dependent}
use Rattle.ft_syntax.specs.Table.{tree}
use Rattle.ft_judge.specs.Meaning.{boundary_in}
use Rattle.ft_calls.proofs.Later.{answer_before, answers_later}
use Rattle.ft_nucleus.proofs.Abstracting.{abstracts, abstracts_not}
use Rattle.ft_nucleus.proofs.abstraction.abstract_boundary.Goals as goal

pub returns-in-Some-clause-answers : goal.returns-in-Some-clause-answers
returns-in-Some-clause-answers c =
    let s = c.args.k.now in
    let v = c.args.v in
    abstracts_not s v c.args.b c.type_entry-entry.result c.in-Some.w c.set_of.result.now c.type_entry-entry.ensures.declared (c.requires.boundary.0, c.requires.boundary.1) c.set_of.ensures
    (sym c.in-Some.is ∙ c.first_dependent.ensures ∙ ap (first_dependent (declared_by s.items).variables v) c.atoms.ensures.atoms)

pub conclude_boundary-requires-clause-answer : goal.conclude_boundary-requires-clause-answer
conclude_boundary-requires-clause-answer c =
    let s = c.args.k.now in
    let t = c.closed_boundary.new.k in
    let v = c.args.v in
    let A = tree s.trees c.type_at-ty.result in
    let R = c.asm_of.result.now in
    let S = c.set_of.result.now in
    let same : c.set_of-2.result.now ≡ S = same_Some c.set_of-2.result.now S (sym c.set_of-2.ensures ∙ c.set_of.ensures) in
    answer_before s t (by_abs v c.args.b) _ c.closed_boundary.ensures.stays.0
    (abstracts s v c.args.b c.type_entry-entry.result A (boundary_in s.trees c.boundary_at.result.now) (boundary_in t.trees c.in_ok-closed.closed) R S c.in_ok-set.set
    c.type_entry-entry.ensures.declared c.type_at-ty.ensures.statement c.asm_of.ensures c.boundary_at.ensures.boundary c.set_of.ensures
    (ap (first_dependent (declared_by s.items).variables v) (sym c.atoms.ensures.atoms) ∙ sym c.first_dependent.ensures ∙ c.in_default.is)
    (c.in_ok-closed.ensures.boundary ∙ ap₂ (λ n x. abstracted A (close_statement n (boundary_in s.trees x))) c.number.ensures c.in_ok-boundary.ensures)
    (c.in_ok-set.ensures ∙ ap (λ S. union R (without (var v) S)) same))

pub returns-clause-answers : goal.returns-clause-answers
returns-clause-answers c =
    answers_later c.args.k.now c.closed_boundary.new.k c.conclude_boundary.new.k (by_abs c.args.v c.args.b) c.conclude_boundary.result c.closed_boundary.ensures.stays c.conclude_boundary.ensures.answers
