use Rattle.std.proofs.Common.{ap, subst, sym, length}
use Rattle.std.specs.Prelude.{Ok, Err}
use Rattle.ft_syntax.specs.Table.{AllBelow}
use Rattle.ft_judge.specs.Meaning.{claim_in, thesis_in, under}
use Rattle.ft_calls.specs.Answers.{IsAnswer}
use Rattle.ft_calls.specs.Forming.{plain_in}
use Rattle.ft_calls.proofs.Answering.{rests}
use Rattle.ft_calls.proofs.Calling.{of_either, refuses_one, answers_either}
use Rattle.ft_nucleus.specs.Sides.{domains_left, FormsSide}
use Rattle.ft_nucleus.proofs.Parted.{parted, left_below}
use Rattle.ft_nucleus.proofs.parts.side.Goals as goal

pub returns-in-Err-clause-answers : goal.returns-in-Err-clause-answers
returns-in-Err-clause-answers c =
    let ts = c.args.k.now.trees in
    let x = c.thesis_of-x.result.now in
    refuses_one (of_either (parted c.args.which)) c.args.k.now c.args.j (thesis_in ts x) c.in-Err.refusal c.thesis_of-x.ensures.thesis
    (subst (λ ds. FormsSide c.args.which ts ds (claim_in ts x.form) (Err c.in-Err.refusal)) c.items.ensures (c.in-Err.ensures.forms ts (claim_in ts x.form) (c.part_of_form-below.ensures.part ts)))

pub conclude-requires-clause-below : goal.conclude-requires-clause-below
conclude-requires-clause-below c =
    let n = length c.args.k.now.trees in
    let x = c.thesis_of-x.result.now in
    let inside : AllBelow n c.items.result.now = subst (AllBelow n) (sym c.items.ensures) c.thesis_of-x.ensures.below.0 in
    (subst (AllBelow n) (sym c.in_ok-domains.ensures) (left_below c.args.which n x.domains c.thesis_of-x.ensures.below.0), c.in-Ok.ensures.below n inside (c.part_of_form-below.ensures.below n c.thesis_of-x.ensures.below.1))

pub conclude-requires-clause-answer : goal.conclude-requires-clause-answer
conclude-requires-clause-answer c =
    let ts = c.args.k.now.trees in
    let x = c.thesis_of-x.result.now in
    let y = under ts c.in_ok-domains.domains (plain_in ts c.in-Ok.form) in
    subst (λ n. IsAnswer c.args.k.now n (Ok (rests y c.in_ok-set.set))) (sym c.step.ensures)
    (answers_either (parted c.args.which) c.args.k.now c.args.j (thesis_in ts x) (under ts (domains_left c.args.which x.domains) (plain_in ts c.in-Ok.form)) y c.asm_of.result.now c.in_ok-set.set
    c.thesis_of-x.ensures.thesis c.asm_of.ensures
    (subst (λ ds. FormsSide c.args.which ts ds (claim_in ts x.form) (Ok c.in-Ok.form)) c.items.ensures (c.in-Ok.ensures.forms ts (claim_in ts x.form) (c.part_of_form-below.ensures.part ts)))
    (ap (λ ds. under ts ds (plain_in ts c.in-Ok.form)) c.in_ok-domains.ensures) c.in_ok-set.ensures)
