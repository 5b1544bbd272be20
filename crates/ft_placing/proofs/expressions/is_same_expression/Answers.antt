use Rattle.ft_syntax.specs.Table.{tree}
use Rattle.ft_sound.proofs.EqualLemmas.{by_equal}
use Rattle.ft_placing.proofs.expressions.is_same_expression.Goals as goal

pub returns : goal.returns
returns c = by_equal (tree c.args.terms.now c.args.a) (tree c.args.terms.now c.args.b) c.equal_expr.result c.equal_expr.ensures
