use Rattle.ft_syntax.specs.Table.{tree}
use Rattle.ft_check.proofs.PutTogether.{instance_same}
use Rattle.ft_check.proofs.instances.is_instance.Goals as goal

pub returns-in_ok-found-in-Ok-clause-is : goal.returns-in_ok-found-in-Ok-clause-is
returns-in_ok-found-in-Ok-clause-is c =
    let x = tree c.args.terms.now c.args.p.found in
    let y = tree c.args.terms.now c.args.p.wanted in
    instance_same c.args.put.now c.copy_from.new.self c.instantiate.new.self c.copy_from-in-Ok.new.self c.args.instance.now.pairs c.in_ok-wanted.wanted c.in-Ok.wanted c.in_ok-found-in-Ok.found x y c.equal_expr.result
    c.in_ok-wanted.ensures.goes_on c.requires.pairs c.in_ok-wanted.ensures.tree c.in-Ok.ensures.within c.in-Ok.ensures.tree c.in_ok-found-in-Ok.ensures.goes_on c.in_ok-found-in-Ok.ensures.tree c.equal_expr.ensures
