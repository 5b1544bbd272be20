use Rattle.std.proofs.Common.{ap, ◌∙◌}
use Rattle.ft_placing.specs.Opening.{trees_of}
use Rattle.ft_placing.proofs.Opened.{applied_same}
use Rattle.ft_placing.proofs.opening.is_applied.Goals as goal

pub returns : goal.returns
returns c =
    applied_same c.copies.new.own c.meta.new.self c.copy_from.new.self c.args.terms.now c.deref.result.now c.args.list.now c.args.m c.in-Ok.formed c.args.found c.in_ok-stated-in-Ok.stated c.equal_expr.result
    (ap (trees_of c.copies.new.own) c.deref.ensures.value ∙ c.in_ok-put.ensures.are) c.in-Ok.ensures.within c.in-Ok.ensures.tree c.in_ok-stated-in-Ok.ensures.goes_on c.in_ok-stated-in-Ok.ensures.tree c.equal_expr.ensures
