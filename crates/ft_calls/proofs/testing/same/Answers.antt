use Rattle.std.proofs.Common.{◌∙◌}
use Rattle.ft_syntax.specs.Table.{tree}
use Rattle.ft_sound.proofs.EqualLemmas.{by_equal, equal_back}
use Rattle.ft_calls.proofs.testing.same.Goals as goal

pub returns-clause-equal : goal.returns-clause-equal
returns-clause-equal c =
    let ts = c.args.t.now in
    by_equal (tree ts c.args.a) (tree ts c.args.b) c.equal_expr.result c.equal_expr.ensures

pub returns-clause-back : goal.returns-clause-back
returns-clause-back c =
    let ts = c.args.t.now in
    by_equal (tree ts c.args.a) (tree ts c.args.b) c.equal_expr.result c.equal_expr.ensures ∙ equal_back (tree ts c.args.a) (tree ts c.args.b)
