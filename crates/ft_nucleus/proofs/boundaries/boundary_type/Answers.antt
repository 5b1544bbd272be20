use Rattle.std.proofs.Common.{ap, ap₂, refl, subst, sym}
use Rattle.std.specs.Prelude.{Ok}
use Rattle.ft_items.specs.Item.{by_btype}
use Rattle.ft_judge.specs.Meaning.{boundary_in}
use Rattle.ft_calls.specs.Answers.{IsAnswer}
use Rattle.ft_calls.proofs.Answering.{rests}
use Rattle.ft_nucleus.proofs.boundaries.boundary_type.Goals as goal

pub conclude_boundary-requires-clause-answer : goal.conclude_boundary-requires-clause-answer
conclude_boundary-requires-clause-answer c =
    subst (λ a. IsAnswer c.args.k.now by_btype (Ok a)) (ap₂ rests (ap (boundary_in c.args.k.now.trees) (sym c.plain_boundary-goal.ensures)) (sym c.new.ensures)) (by_btype, refl, refl)
