use Rattle.std.proofs.Common.{length}
use Rattle.ft_check.proofs.Moved.{both_heads}
use Rattle.ft_check.proofs.conversions.has_same_head.Goals as goal

pub equal_expr-requires : goal.equal_expr-requires
equal_expr-requires c = (c.in-Some.ensures.below (length c.args.terms.now) c.requires.x, c.in-Some-head_in.ensures.below (length c.args.terms.now) c.requires.y)

pub returns : goal.returns
returns c =
    both_heads c.args.terms.now c.head_in.result c.head_in-2.result c.in-Some.a c.in-Some-head_in.b _ _ c.equal_expr.result
    c.in-Some.is (c.head_in.ensures.is c.args.terms.now) c.in-Some-head_in.is (c.head_in-2.ensures.is c.args.terms.now) c.equal_expr.ensures
