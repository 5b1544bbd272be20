use Rattle.std.proofs.Common.{◌-◌, ◌≤◌, length, subst, refl, rules, add-one, arith}
use Rattle.ft_calls.proofs.Later.{AreSmallTrees}
use Rattle.ft_metas.proofs.OpenedTerms.{opened_start, opened_below, opened_more, opened_end, opened_big, opened_small}
use Rattle.ft_metas.proofs.putting.put.Goals as goal

pub loop-i-init : goal.loop-i-init
loop-i-init c = opened_start c.args.k.now c.args.terms.now c.args.e c.requires.below

pub returns-clause-tree : goal.returns-clause-tree
returns-clause-tree c =
    let l : length c.args.terms.now ≤ c.loop-i.i = omega arith in
    opened_end c.args.k.now c.loop-i.k c.args.terms.now c.args.e c.loop-i.i c.loop-i.opened c.loop-i.invariant l

pub open_bound-requires : goal.open_bound-requires
open_bound-requires c =
    opened_below c.args.k.now c.loop-i.k c.args.terms.now c.args.e c.loop-i.i c.loop-i.opened c.index-terms-i.result c.loop-i.invariant c.requires.terms (search rules) c.index-terms-i.is

pub loop-i-preserved : goal.loop-i-preserved
loop-i-preserved c =
    rw add-one (opened_more c.args.k.now c.loop-i.k c.open_bound.new.self c.args.terms.now c.args.e c.loop-i.i c.loop-i.opened c.index-terms-i.result (length c.args.terms.now - 1 - c.loop-i.i) c.in-Ok.opened
    c.loop-i.invariant c.requires.terms (search rules) c.index-terms-i.is refl (c.open_bound.ensures.items, c.open_bound.ensures.goes_on) c.in-Ok.ensures.within c.in-Ok.ensures.tree)

pub returns-in-Err-clause-small : goal.returns-in-Err-clause-small
returns-in-Err-clause-small c =
    opened_big c.args.k.now c.loop-i.k c.args.terms.now c.args.e c.loop-i.i c.loop-i.opened c.index-terms-i.result (length c.args.terms.now - 1 - c.loop-i.i) c.in-Err.fault
    c.loop-i.invariant (subst AreSmallTrees c.terms.ensures.terms c.are_small.ensures) c.requires.terms (search rules) c.index-terms-i.is refl c.in-Err.ensures.too_big

pub returns-clause-small : goal.returns-clause-small
returns-clause-small c =
    let l : length c.args.terms.now ≤ c.loop-i.i = omega arith in
    opened_small c.args.k.now c.loop-i.k c.args.terms.now c.args.e c.loop-i.i c.loop-i.opened c.loop-i.invariant (subst AreSmallTrees c.terms-2.ensures.terms c.are_small-2.ensures) l
