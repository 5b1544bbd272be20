use Rattle.ft_running.specs.Evaluation.{run_of, value_over}
use Rattle.std.proofs.Common.{Ok}
use Rattle.ft_eval.specs.Frames.{passed, passed_all}
use Rattle.ft_running.proofs.Further.{further_both}
use Rattle.ft_eval.proofs.Staying.{all_passed_still, all_fit_further}
use Rattle.ft_eval.proofs.Outwards.{steps_same}
use Rattle.ft_eval.proofs.machine.give_to.Goals as goal

pub outwards-requires-clause-frames : goal.outwards-requires-clause-frames
outwards-requires-clause-frames c =
    all_fit_further c.args.state.now c.resume-answer.new.state c.args.stack.now.items c.resume-answer.ensures.further c.requires.frames

pub returns-clause-steps : goal.returns-clause-steps
returns-clause-steps c =
    let S = c.args.state.now in
    let fs = c.args.stack.now.items in
    let o = passed S c.args.frame (Ok (value_over S c.args.v), run_of S) in
    steps_same (passed_all c.resume-answer.new.state fs o) (passed_all S fs o) c.outwards.result c.outwards.new.stack.items c.outwards.new.state
    (all_passed_still S c.resume-answer.new.state fs o c.holds.ensures c.resume-answer.ensures.further c.requires.frames)
    (c.outwards.ensures.steps o c.resume-answer.ensures.turns)

pub returns-clause-further : goal.returns-clause-further
returns-clause-further c =
    further_both c.args.state.now c.resume-answer.new.state c.outwards.new.state c.resume-answer.ensures.further c.outwards.ensures.further
