use Rattle.std.proofs.Common.{rules, ◌<◌, length, subst}
use Rattle.ft_check.proofs.Compares.{domains_next}
use Rattle.ft_syntax.specs.Laws.{one_below}
use Rattle.ft_check.proofs.compare.push_domains.Goals as goal

pub loop-k-preserved : goal.loop-k-preserved
loop-k-preserved c =
    let lt : c.loop-k.k < length c.args.found.now = search rules in
    let also : c.loop-k.k < length c.args.wanted.now = subst (λ n. c.loop-k.k < n) c.requires lt in
    record {
      same = λ ts j. domains_next ts j c.args.found.now c.args.wanted.now c.loop-k.k c.index-found-k.result c.index-wanted-k.result _ _ _ c.requires lt c.index-found-k.is c.index-wanted-k.is (c.loop-k.invariant.same ts j) (c.in_ok-push.ensures.same ts j);
      below = λ n h f w. c.in_ok-push.ensures.below n (c.loop-k.invariant.below n h f w) (one_below n c.loop-k.k c.index-found-k.result c.args.found.now f lt c.index-found-k.is) (one_below n c.loop-k.k c.index-wanted-k.result c.args.wanted.now w also c.index-wanted-k.is);
    }
