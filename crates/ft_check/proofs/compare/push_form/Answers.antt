use Rattle.ft_check.proofs.Compares.{tm_below, types_below, terms_below, types_same}
use Rattle.ft_check.proofs.compare.push_form.Goals as goal

pub returns-in_ok-push-in-Tm-Tm-clause-below : goal.returns-in_ok-push-in-Tm-Tm-clause-below
returns-in_ok-push-in-Tm-Tm-clause-below c = λ n h f g.
    let x = tm_below n _ _ _ _ _ c.in-Tm-Tm.is-0 c.in-Tm-Tm.is-1 f g in
    c.in_ok-push-in-Tm-Tm.ensures.below n h x.0 x.1

pub returns-in_ok-push-in-EqTy-EqTy-2-clause-same : goal.returns-in_ok-push-in-EqTy-EqTy-2-clause-same
returns-in_ok-push-in-EqTy-EqTy-2-clause-same c = λ ts j.
    types_same ts j _ _ _ _ _ _ _ _ _ c.in-EqTy-EqTy.is-0 c.in-EqTy-EqTy.is-1 (c.in_ok-push-in-EqTy-EqTy.ensures.same ts j) (c.in_ok-push-in-EqTy-EqTy-2.ensures.same ts j)

pub returns-in_ok-push-in-EqTy-EqTy-2-clause-below : goal.returns-in_ok-push-in-EqTy-EqTy-2-clause-below
returns-in_ok-push-in-EqTy-EqTy-2-clause-below c = λ n h f g.
    let x = types_below n _ _ _ _ _ _ c.in-EqTy-EqTy.is-0 c.in-EqTy-EqTy.is-1 f g in
    c.in_ok-push-in-EqTy-EqTy-2.ensures.below n (c.in_ok-push-in-EqTy-EqTy.ensures.below n h x.0.0 x.0.1) x.1.0 x.1.1

pub returns-in_ok-push-in-EqTm-EqTm-3-clause-below : goal.returns-in_ok-push-in-EqTm-EqTm-3-clause-below
returns-in_ok-push-in-EqTm-EqTm-3-clause-below c = λ n h f g.
    let x = terms_below n _ _ _ _ _ _ _ _ c.in-EqTm-EqTm.is-0 c.in-EqTm-EqTm.is-1 f g in
    c.in_ok-push-in-EqTm-EqTm-3.ensures.below n (c.in_ok-push-in-EqTm-EqTm-2.ensures.below n (c.in_ok-push-in-EqTm-EqTm.ensures.below n h x.0.0 x.0.1) x.1.0 x.1.1) x.2.0 x.2.1
