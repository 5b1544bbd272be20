use Rattle.ft_running.specs.Evaluation.{run_of, environment_of}
use Rattle.ft_eval.specs.Frames.{value_of, passed_all}
use Rattle.ft_running.proofs.Further.{further_both}
use Rattle.ft_eval.proofs.Staying.{all_passed_still, all_fit_further}
use Rattle.ft_eval.proofs.Outwards.{steps_same, go_falls}
use Rattle.ft_eval.proofs.machine.go_into.Goals as goal

pub outwards-requires-clause-frames : goal.outwards-requires-clause-frames
outwards-requires-clause-frames c =
    all_fit_further c.args.state.now c.enter-answer.new.state c.args.stack.now.items c.enter-answer.ensures.further c.requires.frames

pub returns-clause-steps : goal.returns-clause-steps
returns-clause-steps c =
    let S = c.args.state.now in
    let fs = c.args.stack.now.items in
    let o = value_of c.args.e.now (environment_of S c.args.scope) (run_of S) in
    steps_same (passed_all c.enter-answer.new.state fs o) (passed_all S fs o) c.outwards.result c.outwards.new.stack.items c.outwards.new.state
    (all_passed_still S c.enter-answer.new.state fs o c.holds.ensures c.enter-answer.ensures.further c.requires.frames)
    (c.outwards.ensures.steps o c.enter-answer.ensures.turns)

pub returns-clause-falls : goal.returns-clause-falls
returns-clause-falls c =
    go_falls c.args.state.now c.enter-answer.new.state c.outwards.new.state c.args.stack.now.items c.outwards.new.stack.items c.enter-answer.result c.outwards.result c.args.e c.args.scope
    c.enter-answer.ensures.spent c.holds-2.ensures c.enter-answer.ensures.further c.outwards.ensures.further c.outwards.ensures.falls

pub returns-clause-further : goal.returns-clause-further
returns-clause-further c =
    further_both c.args.state.now c.enter-answer.new.state c.outwards.new.state c.enter-answer.ensures.further c.outwards.ensures.further
