use Rattle.std.proofs.Common.{rules, ◌≤◌, length, take, refl}
use Rattle.ft_items.specs.Store.{store_of}
use Rattle.ft_check.proofs.HeadsPut.{heading_more, heading_end}
use Rattle.ft_check.proofs.instances.heads_in.Goals as goal

pub loop-k-preserved : goal.loop-k-preserved
loop-k-preserved c =
    heading_more (store_of (take c.args.i c.args.items.now.items)) c.args.ps.now c.loop-k.k _ c.loop-k.terms c.head_at.new.terms c.loop-k.list.items c.push.new.self.items _
    c.loop-k.invariant c.loop-k-test.true refl c.in_ok-binders.ensures.goes_on c.in_ok-binders.ensures.below c.in_ok-binders.ensures.head c.in_ok-push.ensures.items

pub returns-clause-heads : goal.returns-clause-heads
returns-clause-heads c =
    let over : length c.args.ps.now ≤ c.loop-k.k = search rules in
    λ given e t. heading_end (store_of (take c.args.i c.args.items.now.items)) c.args.ps.now c.loop-k.k c.loop-k.terms c.loop-k.list.items given c.loop-k.invariant over e t
