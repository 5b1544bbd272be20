use Rattle.std.proofs.Common.{rules, arith}
use Rattle.std.proofs.lemmas.Grind.{common_steps}
use Rattle.ft_applications.specs.Reading.{premises_from}
use Rattle.ft_common.proofs.Turns.{one_more}
use Rattle.ft_applications.proofs.reader.premises.Goals as goal

pub loop-turn-preserved : goal.loop-turn-preserved
unfolding premises_from
loop-turn-preserved c =
    let e = one_more (λ n. premises_from n c.loop-turn.found c.loop-turn.tokens) _ c.loop-turn._turn c.loop-turn-test.true c.loop-turn.invariant in
    first_of (search rules, grind (arith, common_steps))
