use Rattle.std.proofs.Common.{◌≡◌, ◌≤◌, ◌∙◌, length, map, ap, sym, subst, add-one, rules}
use Rattle.ft_syntax.specs.Arguments.{applied, FitsNode}
use Rattle.ft_syntax.specs.Table.{tree, argument_in}
use Rattle.ft_syntax.specs.Invariant.{IsApplied}
use Rattle.ft_syntax.proofs.Copying.{copying_more, copying_fits, copying_end}
use Rattle.std.proofs.lemmas.Result.{IfOk-weaker}
use Rattle.ft_syntax.proofs.table.Terms.+copying.Goals as goal

pub copied_application-loop-a-preserved : goal.copied_application-loop-a-preserved
copied_application-loop-a-preserved t c =
    rw (add-one, c.in_ok-push.ensures.items) (copying_more c.args.other.now c.args.self.now c.loop-a.self c.copied_body.new.self c.loop-a.a-index c.deref-a-items.result.now c.loop-a.list.items c.a-item.result c.in_ok-body.body
    c.loop-a.invariant c.in_ok-body.ensures.goes_on (search rules) c.a-item.is c.in_ok-body.ensures.within c.in_ok-body.ensures.body)

pub copied_application-apply-requires-clause-fits : goal.copied_application-apply-requires-clause-fits
copied_application-apply-requires-clause-fits t c =
    let a : IsApplied c.args.other.now c.args.e c.deref-a-items.result.now = subst (λ xs. IsApplied c.args.other.now c.args.e xs) (sym c.deref-a-items.ensures.value) c.in_ok-args.ensures in
    subst (λ ys. FitsNode c.args.node (map (argument_in c.loop-a.self) ys)) (sym c.deref.ensures.value)
    (copying_fits c.args.other.now c.args.self.now c.loop-a.self c.args.node c.args.e c.loop-a.a-index c.deref-a-items.result.now c.loop-a.list.items c.requires.node a c.loop-a.invariant (search rules))

pub copied_application-returns-clause-tree : goal.copied_application-returns-clause-tree
copied_application-returns-clause-tree t c =
    let a : IsApplied c.args.other.now c.args.e c.deref-a-items.result.now = subst (λ xs. IsApplied c.args.other.now c.args.e xs) (sym c.deref-a-items.ensures.value) c.in_ok-args.ensures in
    let done : length c.deref-a-items.result.now ≤ c.loop-a.a-index = search rules in
    IfOk-weaker c.apply.result (λ r. tree c.apply.new.self r ≡ applied c.args.node (map (argument_in c.loop-a.self) c.deref.result.now)) (λ r. tree c.apply.new.self r ≡ tree c.args.other.now c.args.e)
    (λ r h. h ∙ ap (λ ys. applied c.args.node (map (argument_in c.loop-a.self) ys)) c.deref.ensures.value ∙ copying_end c.args.other.now c.args.self.now c.loop-a.self c.args.node c.args.e c.loop-a.a-index c.deref-a-items.result.now c.loop-a.list.items c.requires.node a c.loop-a.invariant done) c.apply.ensures.tree
