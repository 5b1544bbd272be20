use Rattle.std.proofs.Common.{◌∙◌, ap, subst, sym, refl}
use Rattle.std.specs.Prelude.{Ok, Err}
use Rattle.ft_items.specs.Item.{by_substeq}
use Rattle.ft_syntax.specs.Table.{tree}
use Rattle.ft_judge.specs.Meaning.{thesis_in}
use Rattle.ft_judge.specs.Laws.{thesis_is}
use Rattle.ft_calls.proofs.Declared.{stays_same}
use Rattle.ft_calls.proofs.Later.{AreSmallTrees, answer_before, answers_later, thesis_small}
use Rattle.ft_nucleus.specs.Equating.{equated_in, IsEquatedSmall}
use Rattle.ft_nucleus.proofs.Equating.{equation_answers, equation_refused, equation_not, found_in}
use Rattle.ft_nucleus.proofs.equal_substitution.substitute_equal.Goals as goal

pub returns-in-Err-clause-answers : goal.returns-in-Err-clause-answers
returns-in-Err-clause-answers c =
    let s = c.args.k.now in
    let x = c.thesis_of-x.result.now in
    let y = c.thesis_of.result.now in
    equation_refused s s c.args.j c.args.e (thesis_in s.trees x) (thesis_in s.trees y) c.in-Err.refusal c.thesis_of-x.ensures.thesis c.thesis_of.ensures.thesis (stays_same s s refl)
    (found_in s.trees c.terms.result.now x y (Err c.in-Err.refusal) c.terms.ensures.terms c.in-Err.ensures.finds)

pub returns-in-Err-equated-clause-answers : goal.returns-in-Err-equated-clause-answers
returns-in-Err-equated-clause-answers c =
    let s = c.args.k.now in
    let t = c.equated.new.k in
    let x = c.thesis_of-x.result.now in
    let y = c.thesis_of.result.now in
    equation_not s t c.args.j c.args.e (thesis_in s.trees x) (thesis_in s.trees y) (tree s.trees c.in-Ok.sides.0) (tree s.trees c.in-Ok.sides.1) c.in-Err-equated.fault c.from.result
    c.thesis_of-x.ensures.thesis c.thesis_of.ensures.thesis c.equated.ensures.stays
    (found_in s.trees c.terms.result.now x y (Ok c.in-Ok.sides) c.terms.ensures.terms c.in-Ok.ensures.finds)
    c.from.ensures (λ e small. c.in-Err-equated.ensures.too_big e (subst (λ z. IsEquatedSmall s.trees z c.in-Ok.sides.0 c.in-Ok.sides.1) (sym c.in_ok-x.ensures) small))

pub conclude-requires-clause-answer : goal.conclude-requires-clause-answer
conclude-requires-clause-answer c =
    let s = c.args.k.now in
    let t = c.equated.new.k in
    let x = c.thesis_of-x.result.now in
    let y = c.thesis_of.result.now in
    answer_before s t (by_substeq c.args.j c.args.e) _ c.equated.ensures.stays.0
    (equation_answers s c.args.j c.args.e (thesis_in s.trees x) (thesis_in s.trees y) (thesis_in t.trees c.in-Ok-equated.equation) (tree s.trees c.in-Ok.sides.0) (tree s.trees c.in-Ok.sides.1) c.asm_of.result.now c.asm_of-2.result.now c.in_ok-set.set
    c.thesis_of-x.ensures.thesis c.asm_of.ensures (thesis_is s.trees x) c.thesis_of.ensures.thesis c.asm_of-2.ensures (thesis_is s.trees y)
    (found_in s.trees c.terms.result.now x y (Ok c.in-Ok.sides) c.terms.ensures.terms c.in-Ok.ensures.finds)
    (c.in-Ok-equated.ensures.equation ∙ ap (λ z. equated_in s.trees z c.in-Ok.sides.0 c.in-Ok.sides.1) c.in_ok-x.ensures)
    (thesis_small t.trees c.in-Ok-equated.equation (subst AreSmallTrees c.terms-2.ensures.terms c.are_small.ensures) c.in-Ok-equated.ensures.within)
    c.in_ok-set.ensures)

pub returns-clause-answers : goal.returns-clause-answers
returns-clause-answers c =
    answers_later c.args.k.now c.equated.new.k c.conclude.new.k (by_substeq c.args.j c.args.e) c.conclude.result c.equated.ensures.stays c.conclude.ensures.answers
