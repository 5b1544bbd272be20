use Rattle.std.proofs.Common.{length}
use Rattle.ft_syntax.specs.Laws.{argument_below}
use Rattle.ft_check.proofs.Copied.{copied_more}
use Rattle.ft_check.proofs.copies.all_copied.Goals as goal

pub loop-k-preserved : goal.loop-k-preserved
loop-k-preserved c =
    copied_more c.args.other.now c.loop-k.terms c.copy.new.terms c.args.arguments.now c.loop-k.list.items c.push.new.self.items c.loop-k.k c.index-arguments-k.result _ _
    c.loop-k.invariant c.loop-k-test.true c.index-arguments-k.is c.in_ok-binders.ensures.goes_on c.in_ok-binders.ensures.below c.in_ok-binders.ensures.is c.in_ok-push.ensures.items

pub copy-requires : goal.copy-requires
copy-requires c = argument_below (length c.args.other.now) c.loop-k.k c.args.arguments.now c.index-arguments-k.result c.requires c.loop-k-test.true c.index-arguments-k.is
