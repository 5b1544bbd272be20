use Rattle.std.proofs.Common.{ap, refl}
use Rattle.ft_judge.specs.Meaning.{thesis_in}
use Rattle.ft_calls.proofs.Calling.{answers_both}
use Rattle.ft_nucleus.proofs.Equations.{widens}
use Rattle.ft_nucleus.proofs.equality.widen.Goals as goal

pub conclude-requires-clause-answer : goal.conclude-requires-clause-answer
conclude-requires-clause-answer c =
    let x = thesis_in c.args.k.now.trees c.thesis_of.result.now in
    answers_both widens c.args.k.now c.args.j c.args.other x x (thesis_in c.args.k.now.trees c.in_ok-thesis.thesis) c.asm_of.result.now c.asm_of-2.result.now c.in_ok-set.set
    c.requires.first c.requires.second c.thesis_of.ensures.thesis c.asm_of.ensures c.asm_of-2.ensures (λ y. (refl, refl))
    (ap (thesis_in c.args.k.now.trees) c.in_ok-thesis.ensures) c.in_ok-set.ensures
