use Rattle.std.proofs.Common.{◌∙◌, ◌<◌, sym, length, rules}
use Rattle.ft_run.proofs.Types.{new_not, new_next}
use Rattle.ft_run.proofs.asking.is_new.Goals as goal

pub returns-then-eq : goal.returns-then-eq
returns-then-eq c =
    let below : c.loop-premise.premise-index < length c.args.taken.now = search rules in
    sym (c.loop-premise.invariant ∙ new_not c.args.taken.now c.args.given.now c.loop-premise.premise-index c.premise-item.result c.name.result.now c.eq.result below c.premise-item.is c.name.ensures c.eq.ensures c.if-eq.true)

pub loop-premise-preserved : goal.loop-premise-preserved
loop-premise-preserved c =
    let below : c.loop-premise.premise-index < length c.args.taken.now = search rules in
    c.loop-premise.invariant ∙ new_next c.args.taken.now c.args.given.now c.loop-premise.premise-index c.premise-item.result c.name.result.now c.eq.result below c.premise-item.is c.name.ensures c.eq.ensures c.if-eq.false
