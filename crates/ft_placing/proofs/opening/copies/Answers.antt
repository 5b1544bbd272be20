use Rattle.ft_placing.proofs.Copied.{copied_more}
use Rattle.ft_placing.proofs.opening.copies.Goals as goal

pub loop-k-preserved : goal.loop-k-preserved
loop-k-preserved c =
    copied_more c.args.terms.now c.args.list.now c.loop-k.k c.index-list-k.result c.in_ok-term.term c.loop-k.own c.copy_from.new.self c.loop-k.copied.items c.push.new.self.items
    c.loop-k.invariant c.loop-k-test.true c.index-list-k.is c.in_ok-term.ensures.goes_on c.in_ok-term.ensures.within c.in_ok-term.ensures.tree c.in_ok-push.ensures.items
