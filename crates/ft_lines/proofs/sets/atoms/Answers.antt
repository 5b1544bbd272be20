use Rattle.std.proofs.Common.{rules, arith}
use Rattle.std.proofs.lemmas.Grind.{common_steps}
use Rattle.ft_lines.specs.Sets.{atoms_from}
use Rattle.ft_common.proofs.Turns.{one_more}
use Rattle.ft_lines.proofs.sets.atoms.Goals as goal

pub loop-turn-preserved : goal.loop-turn-preserved
unfolding atoms_from
loop-turn-preserved c =
    let e = one_more (λ n. atoms_from n c.loop-turn.last c.loop-turn.found c.loop-turn.text) _ c.loop-turn._turn c.loop-turn-test.true c.loop-turn.invariant in
    first_of (search rules, grind (arith, common_steps))
