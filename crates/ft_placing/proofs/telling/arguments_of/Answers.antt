use Rattle.std.proofs.Common.{◌≡◌, ◌≤◌, ◌+◌, ◌-◌, length, arith}
use Rattle.ft_syntax.specs.Laws.{body_longer}
use Rattle.ft_placing.proofs.Told.{listed_more}
use Rattle.ft_placing.proofs.telling.arguments_of.Goals as goal

pub loop-k-preserved : goal.loop-k-preserved
loop-k-preserved c =
    let T = c.args.terms.now in
    let within : c.args.e ≤ length T = omega (arith, c.requires) in
    let place : c.loop-k.k + 1 - 1 ≡ c.loop-k.k = omega arith in
    listed_more T c.args.e c.loop-k.k (c.loop-k.k + 1 - 1) c.arg-binders.result c.loop-k.list.items c.push.new.self.items c.loop-k.invariant place c.arg-binders.ensures.argument
    (body_longer c.args.e (length T) c.arg-binders.result.body within c.arg-binders.ensures.below) c.in_ok-push.ensures.items
