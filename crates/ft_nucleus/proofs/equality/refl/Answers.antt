use Rattle.std.proofs.Common.{ap, length}
use Rattle.ft_theory.specs.Statements.{plain}
use Rattle.ft_judge.specs.Meaning.{claim_in, thesis_in, under}
use Rattle.ft_judge.specs.Laws.{thesis_is}
use Rattle.ft_calls.proofs.Calling.{refuses_one, answers_one, wrong_form}
use Rattle.ft_nucleus.specs.Forms.{reflexivity_checks}
use Rattle.ft_nucleus.proofs.Equations.{reflexive}
use Rattle.ft_nucleus.proofs.Under.{itself_given, itself_refused, all_below_same}
use Rattle.ft_nucleus.proofs.equality.refl.Goals as goal

pub returns-in-Err-clause-answers : goal.returns-in-Err-clause-answers
returns-in-Err-clause-answers c =
    let ts = c.args.k.now.trees in
    let x = c.thesis_of-x.result.now in
    refuses_one reflexive c.args.k.now c.args.j (thesis_in ts x) c.in-Err.refusal c.thesis_of-x.ensures.thesis
    (wrong_form ts (reflexivity_checks (thesis_in ts x)) c.in-Err.refusal c.in-Err.ensures.refused (itself_refused ts x.domains (claim_in ts x.form) (c.in-Err.ensures.none ts)))

pub conclude-requires-clause-below : goal.conclude-requires-clause-below
conclude-requires-clause-below c =
    let n = length c.args.k.now.trees in
    (all_below_same n c.thesis_of-x.result.now.domains c.in_ok-domains.domains c.in_ok-domains.ensures c.thesis_of-x.ensures.below.0, c.in-Ok.ensures.below n c.thesis_of-x.ensures.below.1)

pub conclude-requires-clause-answer : goal.conclude-requires-clause-answer
conclude-requires-clause-answer c =
    let ts = c.args.k.now.trees in
    let x = c.thesis_of-x.result.now in
    answers_one reflexive c.args.k.now c.args.j (thesis_in ts x) (under ts x.domains (plain (claim_in ts c.in-Ok.form))) (under ts c.in_ok-domains.domains (plain (claim_in ts c.in-Ok.form))) c.asm_of.result.now c.in_ok-set.set
    c.thesis_of-x.ensures.thesis c.asm_of.ensures (thesis_is ts x)
    (itself_given ts x.domains (claim_in ts x.form) (claim_in ts c.in-Ok.form) (c.in-Ok.ensures.head ts) (c.in-Ok.ensures.equal ts))
    (ap (λ ds. under ts ds (plain (claim_in ts c.in-Ok.form))) c.in_ok-domains.ensures) c.in_ok-set.ensures
