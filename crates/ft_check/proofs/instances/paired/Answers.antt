use Rattle.std.proofs.Common.{rules, ◌<◌, ◌≤◌, length, refl}
use Rattle.std.specs.Prelude.{min}
use Rattle.ft_check.proofs.HeadsPut.{pairing_more, pairing_end}
use Rattle.ft_check.proofs.instances.paired.Goals as goal

pub loop-k-preserved : goal.loop-k-preserved
loop-k-preserved c =
    let in_ms : c.loop-k.k < length c.args.ms.now = search rules in
    let in_arguments : c.loop-k.k < length c.args.arguments.now = search rules in
    pairing_more c.args.ms.now c.args.arguments.now c.loop-k.k _ _ _ c.loop-k.pairs c.push.new.self _ in_ms in_arguments refl c.index-arguments-k.is c.loop-k.invariant c.in_ok-push.ensures.ok

pub returns : goal.returns
returns c =
    let over : min (length c.args.ms.now) (length c.args.arguments.now) ≤ c.loop-k.k = search rules in
    pairing_end c.args.ms.now c.args.arguments.now c.loop-k.k c.loop-k.pairs _ over c.loop-k.invariant
