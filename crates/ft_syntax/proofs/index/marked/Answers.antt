use Rattle.std.proofs.Common.{◌<◌, length}
use Rattle.std.proofs.lemmas.List.{get_or_default}
use Rattle.ft_syntax.proofs.Chained.{walk_within, walk_more, walk_falls, other_mark}
use Rattle.ft_syntax.proofs.index.marked.Goals as goal

pub walking-smaller : goal.walking-smaller
walking-smaller c =
    let l : c.in-Some.place < length c.args.links.now = walk_within c.args.links.now c.args.buckets c.args.mark c.in-Some.place c.args.from c.walking.at c.walking.invariant c.in-Some.is in
    walk_falls c.args.links.now c.args.buckets c.args.mark c.in-Some.place _ c.args.from c.walking.at c.walking.invariant c.requires.linked c.in-Some.is (get_or_default c.args.links.now c.in-Some.place _ _ l)

pub walking-preserved : goal.walking-preserved
walking-preserved c =
    let l : c.in-Some.place < length c.args.links.now = walk_within c.args.links.now c.args.buckets c.args.mark c.in-Some.place c.args.from c.walking.at c.walking.invariant c.in-Some.is in
    walk_more c.args.links.now c.args.buckets c.args.mark c.in-Some.place _ c.args.from c.walking.at c.walking.invariant c.requires.linked c.in-Some.is (get_or_default c.args.links.now c.in-Some.place _ _ l)
    (other_mark c.has_mark.result _ c.args.mark c.has_mark.ensures c.if-has_mark.false)
