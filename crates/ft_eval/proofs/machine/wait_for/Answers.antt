use Rattle.std.proofs.Common.{◌∙◌, ap, sym, subst}
use Rattle.ft_running.specs.Evaluation.{run_of, environment_of}
use Rattle.ft_eval.specs.Frames.{value_of, passed, passed_all}
use Rattle.ft_eval.specs.Fits.{AllFit}
use Rattle.ft_eval.proofs.Passing.{passed_last}
use Rattle.ft_eval.proofs.Outwards.{steps_same, fits_more}
use Rattle.ft_eval.proofs.machine.wait_for.Goals as goal

pub go_into-requires-clause-frames : goal.go_into-requires-clause-frames
go_into-requires-clause-frames c =
    subst (AllFit c.args.state.now) (sym c.in_ok-push.ensures.ok)
    (fits_more c.args.state.now c.args.stack.now.items c.args.frame c.requires.frames c.requires.frame)

pub returns-clause-steps : goal.returns-clause-steps
returns-clause-steps c =
    let S = c.args.state.now in
    let fs = c.args.stack.now.items in
    let o = value_of c.args.e.now (environment_of S c.args.frame.scope) (run_of S) in
    steps_same (passed_all S c.push.new.stack.items o) (passed_all S fs (passed S c.args.frame o)) c.go_into.result c.go_into.new.stack.items c.go_into.new.state
    (ap (λ gs. passed_all S gs o) c.in_ok-push.ensures.ok ∙ passed_last S fs c.args.frame o)
    c.go_into.ensures.steps
