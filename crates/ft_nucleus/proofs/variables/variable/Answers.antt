use Rattle.std.proofs.Common.{◌∙◌, ap, ap₂}
use Rattle.ft_theory.specs.Statements.{plain, has_type}
use Rattle.ft_items.specs.Sets.{var, union, insert}
use Rattle.ft_items.specs.Item.{by_var}
use Rattle.ft_theory.specs.Expressions.{free}
use Rattle.ft_syntax.specs.Table.{tree}
use Rattle.ft_syntax.specs.Laws.{tree_extends}
use Rattle.ft_judge.specs.Meaning.{thesis_in}
use Rattle.ft_calls.proofs.Later.{answer_before, answers_later}
use Rattle.ft_nucleus.proofs.Abstracting.{variable_answers}
use Rattle.ft_nucleus.proofs.variables.variable.Goals as goal

pub conclude-requires-clause-answer : goal.conclude-requires-clause-answer
conclude-requires-clause-answer c =
    let s = c.args.k.now in
    let t = c.free.new.k in
    let R = c.asm_of.result.now in
    answer_before s t (by_var c.args.v) _ c.free.ensures.stays.0
    (variable_answers s c.args.v c.type_entry-entry.result (tree s.trees c.type_at-ty.result) R c.in_ok-set.set (thesis_in t.trees c.plain.result)
    c.type_entry-entry.ensures.declared c.type_at-ty.ensures.statement c.asm_of.ensures
    (ap (thesis_in t.trees) c.plain.ensures
    ∙ ap₂ (λ e A. plain (has_type e A)) (c.in_ok-term.ensures.tree ∙ ap free c.number-2.ensures) (tree_extends s.trees t.trees c.type_at-ty.result c.free.ensures.stays.1 c.type_at-ty.ensures.below))
    (c.in_ok-set.ensures ∙ ap (λ S. union S R) c.in_ok-own.ensures ∙ ap (λ n. insert (var n) R) c.number.ensures))

pub returns-clause-answers : goal.returns-clause-answers
returns-clause-answers c =
    answers_later c.args.k.now c.free.new.k c.conclude.new.k (by_var c.args.v) c.conclude.result c.free.ensures.stays c.conclude.ensures.answers
