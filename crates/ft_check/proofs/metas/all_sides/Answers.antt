use Rattle.std.proofs.Common.{rules, ◌≤◌, length, refl, take}
use Rattle.ft_items.specs.Store.{store_of}
use Rattle.ft_check.proofs.SidesFound.{found_more, found_end, found_none}
use Rattle.ft_check.proofs.metas.all_sides.Goals as goal

pub loop-k-preserved : goal.loop-k-preserved
loop-k-preserved c =
    found_more (store_of (take c.args.i c.args.items.now.items)) c.args.ps.now c.args.at c.args.items.now.trees c.loop-k.k _ c.loop-k.list.items c.push.new.self.items c.in-Some.sides
    c.loop-k.invariant c.loop-k-test.true refl c.in-Some.ensures.some c.in-Some.ensures.below c.in_ok-push-in-Some.ensures.items

pub returns-in-None-clause-none : goal.returns-in-None-clause-none
returns-in-None-clause-none c = λ given h. found_none (store_of (take c.args.i c.args.items.now.items)) c.args.ps.now c.args.at c.loop-k.k _ given h c.loop-k-test.true refl c.in-None.ensures.none

pub returns-clause-some : goal.returns-clause-some
returns-clause-some c =
    let over : length c.args.ps.now ≤ c.loop-k.k = search rules in
    λ given h. found_end (store_of (take c.args.i c.args.items.now.items)) c.args.ps.now c.args.at c.args.items.now.trees c.loop-k.k c.loop-k.list.items given c.loop-k.invariant over h
