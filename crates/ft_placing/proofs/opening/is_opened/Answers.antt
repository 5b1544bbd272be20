use Rattle.std.proofs.Common.{ap, sym, subst, length, ◌∙◌}
use Rattle.ft_syntax.specs.Laws.{all_below_extends}
use Rattle.ft_syntax.specs.Table.{AllBelow}
use Rattle.ft_placing.specs.Opening.{trees_of}
use Rattle.ft_placing.proofs.Opened.{found_same}
use Rattle.ft_placing.proofs.opening.is_opened.Goals as goal

pub opened-requires-clause-list : goal.opened-requires-clause-list
opened-requires-clause-list c =
    subst (AllBelow (length c.copy_from.new.self)) (sym c.deref.ensures.value) (all_below_extends c.copies.new.own c.copy_from.new.self c.in_ok-put.put.items c.in_ok-copied.ensures.goes_on c.in_ok-put.ensures.below)

pub returns : goal.returns
returns c =
    found_same c.copies.new.own c.copy_from.new.self c.opened.new.own c.copy_from-in-Ok.new.self c.args.terms.now c.deref.result.now c.args.list.now c.in_ok-copied.copied c.args.wanted c.in-Ok.formed c.args.found c.in_ok-stated-in-Ok.stated c.equal_expr.result
    c.in_ok-copied.ensures.goes_on (subst (AllBelow (length c.copies.new.own)) (sym c.deref.ensures.value) c.in_ok-put.ensures.below)
    (ap (trees_of c.copies.new.own) c.deref.ensures.value ∙ c.in_ok-put.ensures.are) c.in_ok-copied.ensures.tree c.in-Ok.ensures.within c.in-Ok.ensures.tree
    c.in_ok-stated-in-Ok.ensures.goes_on c.in_ok-stated-in-Ok.ensures.tree c.equal_expr.ensures
