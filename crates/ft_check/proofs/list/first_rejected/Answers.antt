use Rattle.std.proofs.Common.{rules, ◌<◌, ◌≤◌, arith, length, take}
use Rattle.ft_check.proofs.Listed.{good_so_far, none_next, rejected_here}
use Rattle.ft_items.proofs.Lists.{nth_found}
use Rattle.ft_check.proofs.list.first_rejected.Goals as goal

pub returns-in-Some : goal.returns-in-Some
returns-in-Some c =
    let lt : c.checking.i < length c.args.items.now.items = search rules in
    let le : c.checking.i ≤ length c.args.items.now.items = omega (arith, lt) in
    let x = nth_found c.args.items.now.items c.checking.i lt in
    rejected_here c.args.items.now.items c.checking.i x.0 c.in_ok-why.field-0 c.in-Some.why x.1 le c.checking.invariant.none
    (c.in_ok-why.ensures x.0 x.1 (good_so_far (take c.checking.i c.args.items.now.items) c.checking.invariant.none)) c.in-Some.is

pub checking-preserved : goal.checking-preserved
checking-preserved c =
    let lt : c.checking.i < length c.args.items.now.items = search rules in
    let le : c.checking.i ≤ length c.args.items.now.items = omega (arith, lt) in
    let x = nth_found c.args.items.now.items c.checking.i lt in
    let none = none_next c.args.items.now.items c.checking.i x.0 c.in_ok-why.field-0 x.1 le c.checking.invariant.none
    (c.in_ok-why.ensures x.0 x.1 (good_so_far (take c.checking.i c.args.items.now.items) c.checking.invariant.none)) c.in-None.is in
    record { none = none; counted = c.next-counted.ensures.counts none c.checking.invariant.counted; few = c.next-counted.ensures.few }
