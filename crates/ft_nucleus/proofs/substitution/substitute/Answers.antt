use Rattle.std.proofs.Common.{◌∙◌, ap, subst, sym, refl}
use Rattle.std.specs.Prelude.{Ok, Err}
use Rattle.ft_theory.specs.Statements.{opened}
use Rattle.ft_items.specs.Item.{by_subst}
use Rattle.ft_syntax.specs.Table.{tree}
use Rattle.ft_judge.specs.Meaning.{claim_in, thesis_in}
use Rattle.ft_calls.proofs.Declared.{stays_same}
use Rattle.ft_calls.proofs.Later.{AreSmallTrees, answer_before, answers_later, thesis_small}
use Rattle.ft_nucleus.proofs.Substituting.{puts, puts_not, found_in, opened_not}
use Rattle.ft_nucleus.proofs.substitution.substitute.Goals as goal

pub returns-in-Err-clause-answers : goal.returns-in-Err-clause-answers
returns-in-Err-clause-answers c =
    let s = c.args.k.now in
    let x = c.thesis_of-x.result.now in
    let y = c.thesis_of.result.now in
    puts_not s s c.args.j c.args.t (thesis_in s.trees x) (thesis_in s.trees y) c.in-Err.refusal c.thesis_of-x.ensures.thesis c.thesis_of.ensures.thesis (stays_same s s refl)
    (found_in s.trees c.terms.result.now x.domains c.items.result.now y (Err c.in-Err.refusal) c.terms.ensures.terms c.items.ensures c.in-Err.ensures.finds (claim_in s.trees x.form))

pub returns-in-Err-open_first-clause-answers : goal.returns-in-Err-open_first-clause-answers
returns-in-Err-open_first-clause-answers c =
    let s = c.args.k.now in
    let t = c.open_first.new.self in
    let x = c.thesis_of-x.result.now in
    let y = c.thesis_of.result.now in
    let T = tree s.trees c.in-Ok.term in
    opened_not s t c.args.j c.args.t (thesis_in s.trees x) (thesis_in s.trees y) T c.in-Err-open_first.fault c.from.result c.thesis_of-x.ensures.thesis c.thesis_of.ensures.thesis
    (c.open_first.ensures.items, c.open_first.ensures.goes_on)
    (found_in s.trees c.terms.result.now x.domains c.items.result.now y (Ok c.in-Ok.term) c.terms.ensures.terms c.items.ensures c.in-Ok.ensures.finds (claim_in s.trees x.form))
    c.from.ensures (λ e small. c.in-Err-open_first.ensures.too_big e (subst (λ z. Rattle.ft_judge.specs.Moving.IsSmallStatement (opened T (thesis_in s.trees z))) (sym c.in_ok-x.ensures) small))

pub conclude-requires-clause-answer : goal.conclude-requires-clause-answer
conclude-requires-clause-answer c =
    let s = c.args.k.now in
    let t = c.open_first.new.self in
    let x = c.thesis_of-x.result.now in
    let y = c.thesis_of.result.now in
    let T = tree s.trees c.in-Ok.term in
    answer_before s t (by_subst c.args.j c.args.t) _ c.open_first.ensures.items
    (puts s c.args.j c.args.t (thesis_in s.trees x) (thesis_in s.trees y) (thesis_in t.trees c.in-Ok-open_first.opened) T c.asm_of.result.now c.asm_of-2.result.now c.in_ok-set.set
    c.thesis_of-x.ensures.thesis c.asm_of.ensures c.requires.term c.thesis_of.ensures.thesis c.asm_of-2.ensures
    (found_in s.trees c.terms.result.now x.domains c.items.result.now y (Ok c.in-Ok.term) c.terms.ensures.terms c.items.ensures c.in-Ok.ensures.finds (claim_in s.trees x.form))
    (c.in-Ok-open_first.ensures.thesis ∙ ap (λ z. opened T (thesis_in s.trees z)) c.in_ok-x.ensures)
    (thesis_small t.trees c.in-Ok-open_first.opened (subst AreSmallTrees c.terms-2.ensures.terms c.are_small.ensures) c.in-Ok-open_first.ensures.within)
    c.in_ok-set.ensures)

pub returns-clause-answers : goal.returns-clause-answers
returns-clause-answers c =
    answers_later c.args.k.now c.open_first.new.self c.conclude.new.k (by_subst c.args.j c.args.t) c.conclude.result (c.open_first.ensures.items, c.open_first.ensures.goes_on) c.conclude.ensures.answers
