use Rattle.std.proofs.Common.{◌≡◌, ◌++◌, [], ◌∷◌, map, refl, add-one, rules}
use Rattle.ft_theory.specs.Small.{IsSmall}
use Rattle.ft_reference.specs.Refusals.{AllSmall}
use Rattle.ft_parts.specs.Instances.{expression_at}
use Rattle.ft_parts.proofs.AtInstances.{putting_more, small_next, big_weaker}
use Rattle.ft_parts.proofs.putting.put_all.Goals as goal

pub loop-j-preserved : goal.loop-j-preserved
loop-j-preserved c =
    let it : c.push.new.self ≡ c.loop-j.list ++ c.in-Ok.e ∷ [] = c.in_ok-push.ensures.ok in
    rw (add-one, it) (putting_more c.args.k.now c.loop-j.k c.put.new.k c.args.i.now.pairs c.args.es.now c.loop-j.j c.index-es-j.result c.in-Ok.e c.loop-j.list (c.loop-j.list ++ c.in-Ok.e ∷ [])
    c.loop-j.invariant c.requires.pairs c.requires.below (search rules) c.index-es-j.is c.in-Ok.ensures.stays c.in-Ok.ensures.within c.in-Ok.ensures.tree c.in-Ok.ensures.small refl)

pub returns-in-Err-clause-small : goal.returns-in-Err-clause-small
returns-in-Err-clause-small c =
    big_weaker (IsSmall (expression_at c.loop-j.k.trees c.args.i.now.pairs c.index-es-j.result)) (AllSmall (map (expression_at c.args.k.now.trees c.args.i.now.pairs) c.args.es.now)) c.in-Err.fault c.in-Err.ensures.small
    (small_next c.args.k.now c.loop-j.k c.args.i.now.pairs c.args.es.now c.loop-j.j c.index-es-j.result c.loop-j.list c.loop-j.invariant c.requires.pairs c.requires.below (search rules) c.index-es-j.is)
