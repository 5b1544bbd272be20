use Rattle.std.proofs.Common.{◌∙◌, sym, subst, add-one, rules}
use Rattle.ft_syntax.specs.Invariant.{IsApplied}
use Rattle.ft_syntax.specs.Changes.{changed_argument}
use Rattle.ft_syntax.proofs.Changing.{changing_more, applied_longer}
use Rattle.ft_syntax.proofs.table.Terms.+changing.Goals as goal

pub change_arguments-loop-a-preserved : goal.change_arguments-loop-a-preserved
change_arguments-loop-a-preserved t c =
    let a : IsApplied c.args.self.now c.args.e c.deref-a-items.result.now = subst (λ xs. IsApplied c.args.self.now c.args.e xs) (sym c.deref-a-items.ensures.value) c.in_ok-args.ensures in
    rw (add-one, c.in_ok-push.ensures.items) (changing_more c.args.self.now c.loop-a.self c.change_body.new.self c.args.change.now c.args.under c.args.e c.loop-a.a-index c.deref-a-items.result.now c.loop-a.list.items c.a-item.result c.in_ok-body.body a
    c.requires.within.1 c.loop-a.invariant c.in_ok-body.ensures.goes_on (search rules) c.a-item.is c.in_ok-body.ensures.within c.in_ok-body.ensures.body)

pub change_arguments-rebuilt-requires-clause-applied : goal.change_arguments-rebuilt-requires-clause-applied
change_arguments-rebuilt-requires-clause-applied t c =
    let a : IsApplied c.args.self.now c.args.e c.deref-a-items.result.now = subst (λ xs. IsApplied c.args.self.now c.args.e xs) (sym c.deref-a-items.ensures.value) c.in_ok-args.ensures in
    subst (λ xs. IsApplied c.loop-a.self c.args.e xs) (c.deref-a-items.ensures.value ∙ sym c.deref.ensures.value)
    (applied_longer (changed_argument c.args.self.now c.args.change.now c.args.under) c.args.self.now c.loop-a.self c.args.e c.loop-a.a-index c.deref-a-items.result.now c.loop-a.list.items a c.loop-a.invariant)
