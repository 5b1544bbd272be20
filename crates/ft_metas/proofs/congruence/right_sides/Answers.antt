use Rattle.std.proofs.Common.{◌≡◌, ◌++◌, [], ◌∷◌, refl, add-one, rules}
use Rattle.ft_metas.proofs.Naming.{thesis_named}
use Rattle.ft_metas.proofs.Sides.{equation_at, siding_more}
use Rattle.ft_metas.proofs.congruence.right_sides.Goals as goal

pub right_side-requires-clause-thesis : goal.right_side-requires-clause-thesis
right_side-requires-clause-thesis c = thesis_named c.args.k.now c.args.es.now c.loop-i.i c.index-es-i.result c.requires.theses (search rules) c.index-es-i.is

pub right_side-requires-clause-equation : goal.right_side-requires-clause-equation
right_side-requires-clause-equation c = equation_at c.args.k.now.items c.args.es.now c.loop-i.i c.index-es-i.result c.requires.equations (search rules) c.index-es-i.is

pub loop-i-preserved : goal.loop-i-preserved
loop-i-preserved c =
    let it : c.push.new.self ≡ c.loop-i.found ++ c.right_side.result ∷ [] = c.in_ok-push.ensures.ok in
    rw (add-one, it) (siding_more c.args.k.now c.args.es.now c.loop-i.i c.index-es-i.result c.right_side.result c.loop-i.found (c.loop-i.found ++ c.right_side.result ∷ [])
    c.loop-i.invariant (search rules) c.index-es-i.is c.right_side.ensures.within c.right_side.ensures.side refl)
