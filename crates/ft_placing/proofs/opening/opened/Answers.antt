use Rattle.std.proofs.Common.{refl}
use Rattle.ft_placing.proofs.Opened.{opened_more}
use Rattle.ft_placing.proofs.opening.opened.Goals as goal

pub loop-k-preserved : goal.loop-k-preserved
loop-k-preserved c =
    opened_more c.args.own.now c.loop-k.own c.open_bound.new.self c.args.list.now c.args.e c.loop-k.k c.loop-k.formed c.in-Ok.next c.index-list-k.result _
    c.loop-k.invariant c.requires.list c.loop-k-test.true c.index-list-k.is refl c.in-Ok.ensures.goes_on c.in-Ok.ensures.within c.in-Ok.ensures.tree
