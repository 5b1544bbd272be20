use Rattle.std.proofs.Common.{◌≡◌, ◌<◌, ◌≤◌, ◌+◌, ◌*◌, ◌∙◌, length, map, sym, subst, add-one, rules}
use Rattle.ft_syntax.specs.Invariant.{IsApplied}
use Rattle.ft_syntax.specs.Table.{tree, argument_in}
use Rattle.ft_syntax.proofs.Changes.{node_free}
use Rattle.ft_syntax.proofs.Planting.{planting_more, planting_longer, planting_body, planting_below, planting_fits, planting_end, planting_too_big, plug_free}
use Rattle.ft_syntax.proofs.Changing.{change_measure, applied_falls}
use Rattle.std.proofs.lemmas.Result.{IfOk-weaker, IfErr-weaker}
use Rattle.ft_syntax.specs.Arguments.{node_of, applied}
use Rattle.ft_syntax.specs.Instances.{IsPlanted, IsNeverSmall}
use Rattle.ft_syntax.specs.declared.syntax.SynFault.TheVariants.{TooBig}
use Rattle.ft_theory.specs.Small.{IsSmall}
use Rattle.ft_syntax.proofs.table.Terms.+plugging.Goals as goal

pub plug-returns-in-Free-clause-tree : goal.plug-returns-in-Free-clause-tree
plug-returns-in-Free-clause-tree t c =
    plug_free c.args.self.now c.args.terms.now c.args.under c.in-Free.field-0 (tree c.args.self.now c.args.e) (node_free (tree c.args.self.now c.args.e) c.in-Free.field-0 (sym c.node.ensures.node ∙ c.in-Free.is))

pub plug_arguments-loop-a-preserved : goal.plug_arguments-loop-a-preserved
plug_arguments-loop-a-preserved t c =
    let a : IsApplied c.args.self.now c.args.e c.deref-a-items.result.now = subst (λ xs. IsApplied c.args.self.now c.args.e xs) (sym c.deref-a-items.ensures.value) c.in_ok-args.ensures in
    rw (add-one, c.in_ok-push.ensures.items) (planting_more c.args.self.now c.loop-a.self c.plug_body.new.self c.args.terms.now c.args.under c.args.e c.loop-a.a-index c.deref-a-items.result.now c.loop-a.list.items c.a-item.result c.in_ok-body.body a
    c.requires.within.1 c.loop-a.invariant c.in_ok-body.ensures.goes_on (search rules) c.a-item.is c.in_ok-body.ensures.within c.in_ok-body.ensures.body)

pub plug_arguments-rebuilt-requires-clause-applied : goal.plug_arguments-rebuilt-requires-clause-applied
plug_arguments-rebuilt-requires-clause-applied t c =
    let a : IsApplied c.args.self.now c.args.e c.deref-a-items.result.now = subst (λ xs. IsApplied c.args.self.now c.args.e xs) (sym c.deref-a-items.ensures.value) c.in_ok-args.ensures in
    subst (λ xs. IsApplied c.loop-a.self c.args.e xs) (c.deref-a-items.ensures.value ∙ sym c.deref.ensures.value)
    (planting_longer c.args.self.now c.loop-a.self c.args.terms.now c.args.under c.args.e c.loop-a.a-index c.deref-a-items.result.now c.loop-a.list.items a c.loop-a.invariant)

pub plug_arguments-plug_body-requires : goal.plug_arguments-plug_body-requires
plug_arguments-plug_body-requires t c =
    let a : IsApplied c.args.self.now c.args.e c.deref-a-items.result.now = subst (λ xs. IsApplied c.args.self.now c.args.e xs) (sym c.deref-a-items.ensures.value) c.in_ok-args.ensures in
    let within : c.loop-a.a-index < length c.deref-a-items.result.now = search rules in
    let falls : change_measure c.a-item.result.body < 4 * c.args.e + 1 = applied_falls c.args.self.now c.args.e c.loop-a.a-index c.deref-a-items.result.now c.a-item.result a within c.a-item.is in (
      search rules,
      (
        planting_body c.args.self.now c.loop-a.self c.args.terms.now c.args.under c.args.e c.loop-a.a-index c.deref-a-items.result.now c.loop-a.list.items c.a-item.result a c.loop-a.invariant within c.a-item.is,
        planting_below c.args.self.now c.loop-a.self c.args.terms.now c.args.under c.loop-a.a-index c.deref-a-items.result.now c.loop-a.list.items c.loop-a.invariant c.requires.within.1,
      ),
    )

pub plug_arguments-rebuilt-requires-clause-fits : goal.plug_arguments-rebuilt-requires-clause-fits
plug_arguments-rebuilt-requires-clause-fits t c =
    let a : IsApplied c.args.self.now c.args.e c.deref-a-items.result.now = subst (λ xs. IsApplied c.args.self.now c.args.e xs) (sym c.deref-a-items.ensures.value) c.in_ok-args.ensures in
    planting_fits c.args.self.now c.loop-a.self c.args.terms.now c.args.under c.args.e c.loop-a.a-index c.deref-a-items.result.now c.loop-a.list.items a c.loop-a.invariant (search rules)

pub plug_arguments-returns-clause-tree : goal.plug_arguments-returns-clause-tree
plug_arguments-returns-clause-tree t c =
    let a : IsApplied c.args.self.now c.args.e c.deref-a-items.result.now = subst (λ xs. IsApplied c.args.self.now c.args.e xs) (sym c.deref-a-items.ensures.value) c.in_ok-args.ensures in
    let done : length c.deref-a-items.result.now ≤ c.loop-a.a-index = search rules in
    IfOk-weaker c.rebuilt.result (λ r. tree c.rebuilt.new.self r ≡ applied (node_of (tree c.loop-a.self c.args.e)) (map (argument_in c.loop-a.self) c.loop-a.list.items)) (λ r. IsPlanted c.args.self.now c.args.terms.now c.args.under (tree c.args.self.now c.args.e) (tree c.rebuilt.new.self r))
    (λ r h. planting_end c.args.self.now c.loop-a.self c.args.terms.now c.args.under c.args.e c.loop-a.a-index c.deref-a-items.result.now c.loop-a.list.items (tree c.rebuilt.new.self r) a c.loop-a.invariant done h) c.rebuilt.ensures.tree

pub plug_arguments-returns-clause-too_big : goal.plug_arguments-returns-clause-too_big
plug_arguments-returns-clause-too_big t c =
    let a : IsApplied c.args.self.now c.args.e c.deref-a-items.result.now = subst (λ xs. IsApplied c.args.self.now c.args.e xs) (sym c.deref-a-items.ensures.value) c.in_ok-args.ensures in
    let done : length c.deref-a-items.result.now ≤ c.loop-a.a-index = search rules in
    IfErr-weaker c.rebuilt.result (λ f. f ≡ TooBig → IsSmall (applied (node_of (tree c.loop-a.self c.args.e)) (map (argument_in c.loop-a.self) c.loop-a.list.items)) → ⊥) (λ f. f ≡ TooBig → IsNeverSmall c.args.self.now c.args.terms.now c.args.under (tree c.args.self.now c.args.e))
    (λ f h e. planting_too_big c.args.self.now c.loop-a.self c.args.terms.now c.args.under c.args.e c.loop-a.a-index c.deref-a-items.result.now c.loop-a.list.items a c.loop-a.invariant done (h e)) c.rebuilt.ensures.too_big
