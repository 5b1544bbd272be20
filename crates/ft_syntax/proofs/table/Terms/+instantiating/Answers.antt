use Rattle.std.proofs.Common.{◌∙◌, sym, subst, add-one, rules}
use Rattle.ft_syntax.specs.Invariant.{IsApplied}
use Rattle.ft_syntax.proofs.Instantiating.{instantiating_more, instantiating_longer, gathering_more}
use Rattle.ft_syntax.proofs.table.Terms.+instantiating.Goals as goal

pub instantiate_arguments-loop-a-preserved : goal.instantiate_arguments-loop-a-preserved
instantiate_arguments-loop-a-preserved t c =
    let a : IsApplied c.args.self.now c.args.e c.deref-a-items.result.now = subst (λ xs. IsApplied c.args.self.now c.args.e xs) (sym c.deref-a-items.ensures.value) c.in_ok-args.ensures in
    rw (add-one, c.in_ok-push.ensures.items) (instantiating_more c.args.self.now c.loop-a.self c.instantiate_body.new.self c.args.pairs.now c.args.e c.loop-a.a-index c.deref-a-items.result.now c.loop-a.list.items c.a-item.result c.in_ok-body.body a
    c.requires.within.1 c.loop-a.invariant c.in_ok-body.ensures.goes_on (search rules) c.a-item.is c.in_ok-body.ensures.within c.in_ok-body.ensures.body)

pub instantiate_arguments-rebuilt-requires-clause-applied : goal.instantiate_arguments-rebuilt-requires-clause-applied
instantiate_arguments-rebuilt-requires-clause-applied t c =
    let a : IsApplied c.args.self.now c.args.e c.deref-a-items.result.now = subst (λ xs. IsApplied c.args.self.now c.args.e xs) (sym c.deref-a-items.ensures.value) c.in_ok-args.ensures in
    subst (λ xs. IsApplied c.loop-a.self c.args.e xs) (c.deref-a-items.ensures.value ∙ sym c.deref.ensures.value)
    (instantiating_longer c.args.self.now c.loop-a.self c.args.pairs.now c.args.e c.loop-a.a-index c.deref-a-items.result.now c.loop-a.list.items a c.loop-a.invariant)

pub instantiate_meta-loop-a-preserved : goal.instantiate_meta-loop-a-preserved
instantiate_meta-loop-a-preserved t c =
    let a : IsApplied c.args.self.now c.args.e c.deref-a-items.result.now = subst (λ xs. IsApplied c.args.self.now c.args.e xs) (sym c.deref-a-items.ensures.value) c.in_ok-args.ensures in
    rw (add-one, c.in_ok-push.ensures.items) (gathering_more c.args.self.now c.loop-a.self c.instantiate_term.new.self c.args.pairs.now c.args.e c.loop-a.a-index c.deref-a-items.result.now c.loop-a.terms.items c.a-item.result c.in_ok-term.term a
    c.requires.within.1 c.loop-a.invariant c.in_ok-term.ensures.goes_on (search rules) c.a-item.is c.in_ok-term.ensures.within c.in_ok-term.ensures.term)
