use Rattle.ft_theory.specs.Expressions.{symbol}
use Rattle.ft_syntax.specs.Table.{tree, arguments_in}
use Rattle.ft_check.proofs.PutTogether.{symbol_same}
use Rattle.ft_check.proofs.instances.is_symbol.Goals as goal

pub returns-in_ok-found-in-Ok-clause-is : goal.returns-in_ok-found-in-Ok-clause-is
returns-in_ok-found-in-Ok-clause-is c =
    let x = tree c.args.terms.now c.args.found in
    let y = symbol c.args.r (arguments_in c.args.put.now c.args.arguments.now) in
    symbol_same c.symbol.new.self c.copy_from.new.self c.in-Ok.wanted c.in_ok-found-in-Ok.found x y c.equal_expr.result
    c.in-Ok.ensures.within c.in-Ok.ensures.tree c.in_ok-found-in-Ok.ensures.goes_on c.in_ok-found-in-Ok.ensures.tree c.equal_expr.ensures
