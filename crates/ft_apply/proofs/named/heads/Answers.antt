use Rattle.std.proofs.Common.{◌≡◌, ◌++◌, [], ◌∷◌, refl, add-one, rules}
use Rattle.ft_apply.proofs.Naming.{heading_more}
use Rattle.ft_apply.proofs.named.heads.Goals as goal

pub loop-i-preserved : goal.loop-i-preserved
loop-i-preserved c =
    let it : c.push.new.self ≡ c.loop-i.found ++ c.head.result ∷ [] = c.in_ok-push.ensures.ok in
    rw (add-one, it) (heading_more c.args.k.now c.args.args.now c.loop-i.i c.index-args-i.result c.head.result c.loop-i.found (c.loop-i.found ++ c.head.result ∷ [])
    c.loop-i.invariant (search rules) c.index-args-i.is c.head.ensures.head c.head.ensures.below refl)
