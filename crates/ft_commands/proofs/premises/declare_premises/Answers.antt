use Rattle.std.proofs.Common.{◌+◌, drop, subst}
use Rattle.ft_running.proofs.Further.{further_both}
use Rattle.ft_commands.proofs.Premised.{Drafts, rest_is, drafts_on, drafts_stop}
use Rattle.ft_commands.proofs.premises.declare_premises.Goals as goal

pub returns-in-Err-clause-tells : goal.returns-in-Err-clause-tells
returns-in-Err-clause-tells c =
    let rest = drop (c.loop-p.p-index + 1) c.args.premises.now in
    let h = subst (λ r. Drafts c.args.state.now c.loop-p.state c.args.premises.now r c.args.draft.now c.loop-p.draft c.args.scope c.loop-p.scope) (rest_is c.args.premises.now c.loop-p.p-index c.p-item.result c.p-item.is c.loop-p-test.true) c.loop-p.invariant in
    drafts_stop c.args.state.now c.loop-p.state c.declare_premise.new.state c.args.premises.now c.p-item.result rest c.args.draft.now c.loop-p.draft c.declare_premise.new.draft c.args.scope c.loop-p.scope c.in-Err.stop h c.in-Err.ensures.tells

pub returns-in-Err-clause-further : goal.returns-in-Err-clause-further
returns-in-Err-clause-further c =
    further_both c.args.state.now c.loop-p.state c.declare_premise.new.state c.loop-p.invariant.further c.declare_premise.ensures.further

pub loop-p-preserved : goal.loop-p-preserved
loop-p-preserved c =
    let rest = drop (c.loop-p.p-index + 1) c.args.premises.now in
    let h = subst (λ r. Drafts c.args.state.now c.loop-p.state c.args.premises.now r c.args.draft.now c.loop-p.draft c.args.scope c.loop-p.scope) (rest_is c.args.premises.now c.loop-p.p-index c.p-item.result c.p-item.is c.loop-p-test.true) c.loop-p.invariant in
    drafts_on c.args.state.now c.loop-p.state c.declare_premise.new.state c.args.premises.now c.p-item.result rest c.args.draft.now c.loop-p.draft c.declare_premise.new.draft c.args.scope c.loop-p.scope c.in-Ok.inner
    h c.declare_premise.ensures.further c.in-Ok.ensures.tells c.in-Ok.ensures.name
