use Rattle.std.proofs.Common.{rules, ◌≡◌, subst}
use Rattle.ft_stated.specs.First.{AreFirsts}
use Rattle.ft_stated.specs.Lines.{items_in}
use Rattle.ft_stated.specs.Places.{AreIndexes}
use Rattle.ft_stated.proofs.items.StatedItems.new.Goals as goal

pub invariant_of-result : goal.invariant_of-result
invariant_of-result c =
    let indexed : c.deref.result.now ≡ c.args.stated.items = search rules in
    let kept : c.deref-2.result.now ≡ c.args.stated.items = search rules in (
      c.requires,
      subst (λ X. AreIndexes (items_in c.args.terms X) c.in_ok-index.index.entries.items c.in_ok-index.index.metavariables.items c.in_ok-index.index.rules.items) indexed (c.in_ok-index.ensures c.args.terms),
      subst (λ X. AreFirsts (items_in c.args.terms X) c.in_ok-firsts.firsts.variables.entries c.in_ok-firsts.firsts.rules.entries c.in_ok-firsts.firsts.greatest.items) kept (c.in_ok-firsts.ensures c.args.terms),
    )
