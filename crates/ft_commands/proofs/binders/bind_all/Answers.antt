use Rattle.std.proofs.Common.{◌+◌, drop, subst}
use Rattle.ft_running.proofs.Further.{further_both}
use Rattle.ft_commands.proofs.Binding.{Binds, rest_is, binds_on, binds_end}
use Rattle.ft_commands.proofs.binders.bind_all.Goals as goal

pub returns-in-Err-clause-tells : goal.returns-in-Err-clause-tells
returns-in-Err-clause-tells c =
    let rest = drop (c.loop-b.b-index + 1) c.args.binders.now in
    let h = subst (λ r. Binds c.args.state.now c.loop-b.state c.args.binders.now r c.args.scope c.loop-b.scope c.loop-b.bounds.items) (rest_is c.args.binders.now c.loop-b.b-index c.b-item.result c.b-item.is c.loop-b-test.true) c.loop-b.invariant in
    binds_end c.args.state.now c.loop-b.state c.bind_one.new.state c.args.binders.now c.b-item.result rest c.args.scope c.loop-b.scope c.loop-b.bounds.items c.in-Err.end h c.in-Err.ensures.tells

pub returns-in-Err-clause-further : goal.returns-in-Err-clause-further
returns-in-Err-clause-further c =
    further_both c.args.state.now c.loop-b.state c.bind_one.new.state c.loop-b.invariant.further c.bind_one.ensures.further

pub returns-in-Err-push-clause-further : goal.returns-in-Err-push-clause-further
returns-in-Err-push-clause-further c =
    further_both c.args.state.now c.loop-b.state c.bind_one.new.state c.loop-b.invariant.further c.bind_one.ensures.further

pub loop-b-preserved : goal.loop-b-preserved
loop-b-preserved c =
    let rest = drop (c.loop-b.b-index + 1) c.args.binders.now in
    let h = subst (λ r. Binds c.args.state.now c.loop-b.state c.args.binders.now r c.args.scope c.loop-b.scope c.loop-b.bounds.items) (rest_is c.args.binders.now c.loop-b.b-index c.b-item.result c.b-item.is c.loop-b-test.true) c.loop-b.invariant in
    binds_on c.args.state.now c.loop-b.state c.bind_one.new.state c.args.binders.now c.b-item.result rest c.args.scope c.loop-b.scope c.in-Ok.pair.1 c.loop-b.bounds.items c.push.new.bounds.items c.in-Ok.pair.0
    h c.bind_one.ensures.further c.in-Ok.ensures.tells c.in-Ok-push.ensures
