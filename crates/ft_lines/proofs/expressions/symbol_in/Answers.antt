use Rattle.ft_theory.specs.Expressions.{symbol}
use Rattle.ft_syntax.specs.Table.{arguments_in}
use Rattle.ft_lines.proofs.Forming.{formed_is}
use Rattle.ft_lines.proofs.expressions.symbol_in.Goals as goal

pub returns-clause-formed : goal.returns-clause-formed
returns-clause-formed c =
    formed_is (symbol c.args.s (arguments_in c.args.terms.now c.args.args.now)) c.symbol.new.self c.symbol.result c.formed.result c.formed.ensures
    c.symbol.ensures.within c.symbol.ensures.tree c.symbol.ensures.small c.symbol.ensures.too_big
