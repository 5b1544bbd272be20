use Rattle.std.proofs.Common.{◌≡◌, ◌++◌, [], ◌∷◌, add-one, rules}
use Rattle.ft_judge.proofs.Moves.{moving_more}
use Rattle.ft_judge.proofs.moving.move_domains.Goals as goal

pub loop-i-preserved : goal.loop-i-preserved
loop-i-preserved c =
    let it : c.push.new.self ≡ c.loop-i.list ++ c.in_ok-e.e ∷ [] = c.in_ok-push.ensures.ok in
    rw (add-one, it) (moving_more c.args.t.now c.loop-i.t c.move_one.new.t c.args.work.now c.loop-i.i c.index-xs-i.result c.in_ok-e.e c.args.xs.now c.args.list c.loop-i.list
    c.requires.domains c.requires.work c.loop-i.invariant c.in_ok-e.ensures.goes_on (search rules) c.index-xs-i.is c.in_ok-e.ensures.within c.in_ok-e.ensures.tree)
