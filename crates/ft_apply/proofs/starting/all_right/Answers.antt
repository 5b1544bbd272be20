use Rattle.std.proofs.Common.{◌≡◌, ◌++◌, [], ◌∷◌, subst, sym, refl, add-one, rules}
use Rattle.ft_apply.proofs.Starts.{Starting, starting_start, starting_more, starting_fault}
use Rattle.ft_apply.proofs.starting.all_right.Goals as goal

pub loop-i-init : goal.loop-i-init
loop-i-init c = subst (Starting c.args.k.now c.args.args.now c.args.equations.now 0 0) (sym c.new-found.ensures) (starting_start c.args.k.now c.args.args.now c.args.equations.now c.requires.count)

pub loop-i-preserved : goal.loop-i-preserved
loop-i-preserved c =
    let it : c.push.new.self ≡ c.loop-i.found ++ c.in-Ok.both.0 ∷ [] = c.in_ok-push.ensures.ok in
    rw (add-one, it) (starting_more c.args.k.now c.args.args.now c.args.equations.now c.loop-i.i c.loop-i.next c.in-Ok.both.1 c.index-args-i.result c.in-Ok.both.0 c.loop-i.found (c.loop-i.found ++ c.in-Ok.both.0 ∷ [])
    c.loop-i.invariant (search rules) c.index-args-i.is c.in-Ok.ensures.right c.in-Ok.ensures.below c.in-Ok.ensures.later c.in-Ok.ensures.checks refl)

pub returns-in-Err-clause-checks : goal.returns-in-Err-clause-checks
returns-in-Err-clause-checks c =
    starting_fault c.args.k.now c.args.args.now c.args.equations.now c.loop-i.i c.loop-i.next c.index-args-i.result c.loop-i.found c.in-Err.fault c.loop-i.invariant (search rules) c.index-args-i.is c.in-Err.ensures.checks
