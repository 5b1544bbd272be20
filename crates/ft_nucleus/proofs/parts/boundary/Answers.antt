use Rattle.std.proofs.Common.{refl}
use Rattle.ft_theory.specs.Statements.{boundary_of}
use Rattle.ft_judge.specs.Meaning.{thesis_in, boundary_in}
use Rattle.ft_judge.specs.Laws.{thesis_is}
use Rattle.ft_calls.proofs.Calling.{answers_one}
use Rattle.ft_nucleus.proofs.Parted.{bounds}
use Rattle.ft_nucleus.proofs.parts.boundary.Goals as goal

pub conclude_boundary-requires-clause-answer : goal.conclude_boundary-requires-clause-answer
conclude_boundary-requires-clause-answer c =
    let ts = c.args.k.now.trees in
    let x = c.thesis_of.result.now in
    answers_one bounds c.args.k.now c.args.j (thesis_in ts x) (boundary_of (thesis_in ts x)) (boundary_in ts c.in_ok-boundary.boundary) c.asm_of.result.now c.in_ok-set.set
    c.thesis_of.ensures.thesis c.asm_of.ensures (thesis_is ts x) (refl, refl) (c.in_ok-boundary.ensures.meaning ts) c.in_ok-set.ensures
