use Rattle.std.proofs.Common.{◌≡◌, ◌∙◌, ap, ap₂, sym}
use Rattle.std.proofs.lemmas.Option.{same_Some}
use Rattle.ft_theory.specs.Statements.{abstracted, close_statement}
use Rattle.ft_items.specs.Item.{by_abs}
use Rattle.ft_items.specs.Sets.{var, union, without}
use Rattle.ft_items.specs.Store.{declared_by}
use Rattle.ft_reference.specs.Checks.{first_dependent}
use Rattle.ft_syntax.specs.Table.{tree}
use Rattle.ft_judge.specs.Meaning.{thesis_in}
use Rattle.ft_calls.proofs.Later.{answer_before, answers_later}
use Rattle.ft_nucleus.proofs.Abstracting.{abstracts, abstracts_not}
use Rattle.ft_nucleus.proofs.abstraction.abstract_var.Goals as goal

pub returns-in-Some-clause-answers : goal.returns-in-Some-clause-answers
returns-in-Some-clause-answers c =
    let s = c.args.k.now in
    let v = c.args.v in
    abstracts_not s v c.args.j c.type_entry-entry.result c.in-Some.w c.asm_of.result.now c.type_entry-entry.ensures.declared (c.requires.thesis.0, c.requires.thesis.1) c.asm_of.ensures
    (sym c.in-Some.is ∙ c.first_dependent.ensures ∙ ap (first_dependent (declared_by s.items).variables v) c.atoms.ensures.atoms)

pub conclude-requires-clause-answer : goal.conclude-requires-clause-answer
conclude-requires-clause-answer c =
    let s = c.args.k.now in
    let t = c.closed_thesis.new.k in
    let v = c.args.v in
    let A = tree s.trees c.type_at-ty.result in
    let R = c.asm_of-2.result.now in
    let S = c.asm_of.result.now in
    let same : c.asm_of-3.result.now ≡ S = same_Some c.asm_of-3.result.now S (sym c.asm_of-3.ensures ∙ c.asm_of.ensures) in
    answer_before s t (by_abs v c.args.j) _ c.closed_thesis.ensures.stays.0
    (abstracts s v c.args.j c.type_entry-entry.result A (thesis_in s.trees c.thesis_of.result.now) (thesis_in t.trees c.in_ok-closed.closed) R S c.in_ok-set.set
    c.type_entry-entry.ensures.declared c.type_at-ty.ensures.statement c.asm_of-2.ensures c.thesis_of.ensures.thesis c.asm_of.ensures
    (ap (first_dependent (declared_by s.items).variables v) (sym c.atoms.ensures.atoms) ∙ sym c.first_dependent.ensures ∙ c.in_default.is)
    (c.in_ok-closed.ensures.thesis ∙ ap₂ (λ n x. abstracted A (close_statement n (thesis_in s.trees x))) c.number.ensures c.in_ok-thesis.ensures)
    (c.in_ok-set.ensures ∙ ap (λ S. union R (without (var v) S)) same))

pub returns-clause-answers : goal.returns-clause-answers
returns-clause-answers c =
    answers_later c.args.k.now c.closed_thesis.new.k c.conclude.new.k (by_abs c.args.v c.args.j) c.conclude.result c.closed_thesis.ensures.stays c.conclude.ensures.answers
