use Rattle.std.proofs.Common.{◌≡◌, ◌-◌, ◌≤◌, ◌++◌, [], ◌∷◌, refl, sym, subst, add-one, rules, arith}
use Rattle.ft_metas.proofs.Bounding.{Bounding, bounding_start, bounding_more, bounding_end}
use Rattle.ft_metas.proofs.bounds.bounds.Goals as goal

pub loop-i-preserved : goal.loop-i-preserved
loop-i-preserved c =
    let it : c.push.new.self ≡ c.loop-i.list ++ c.in_ok-e.e ∷ [] = c.in_ok-push.ensures.ok in
    rw (add-one, it) (bounding_more c.args.k.now c.loop-i.k c.bound.new.k c.args.n c.loop-i.i (c.args.n - 1 - c.loop-i.i) c.in_ok-e.e c.loop-i.list (c.loop-i.list ++ c.in_ok-e.e ∷ [])
    c.loop-i.invariant (search rules) refl c.bound.ensures.stays c.in_ok-e.ensures.within c.in_ok-e.ensures.tree refl)

pub loop-i-init : goal.loop-i-init
loop-i-init c = subst (Bounding c.args.k.now c.args.k.now c.args.n 0) (sym c.new-list.ensures) (bounding_start c.args.k.now c.args.n)

pub returns-clause-terms : goal.returns-clause-terms
returns-clause-terms c =
    let l : c.args.n ≤ c.loop-i.i = omega arith in
    bounding_end c.args.k.now c.loop-i.k c.args.n c.loop-i.i c.loop-i.list c.loop-i.invariant l
