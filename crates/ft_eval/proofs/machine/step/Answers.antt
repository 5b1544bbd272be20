use Rattle.std.proofs.Common.{◌∙◌, ◌<◌, ap, sym, subst, Ok}
use Rattle.std.specs.Prelude.{IfOk}
use Rattle.ft_running.specs.Evaluation.{run_of, value_over}
use Rattle.ft_eval.specs.Frames.{passed, passed_all, turned}
use Rattle.ft_eval.specs.Fits.{AllFit}
use Rattle.ft_eval.specs.Turns.{work_left}
use Rattle.ft_eval.proofs.Outwards.{fits_last, given_last, give_falls, progresses_same}
use Rattle.ft_eval.proofs.machine.step.Goals as goal

pub give_to-requires-clause-frames : goal.give_to-requires-clause-frames
give_to-requires-clause-frames c =
    (fits_last c.args.state.now c.pop.new.self.items c.in-Some.frame (subst (AllFit c.args.state.now) c.in-Some.ensures.items c.requires.frames)).0

pub give_to-requires-clause-frame : goal.give_to-requires-clause-frame
give_to-requires-clause-frame c =
    (fits_last c.args.state.now c.pop.new.self.items c.in-Some.frame (subst (AllFit c.args.state.now) c.in-Some.ensures.items c.requires.frames)).1

pub returns-in-Some-clause-steps : goal.returns-in-Some-clause-steps
returns-in-Some-clause-steps c =
    let S = c.args.state.now in
    let fs = c.args.stack.now.items in
    let gs = c.pop.new.self.items in
    let o = passed_all S gs (passed S c.in-Some.frame (Ok (value_over S c.in-Give.v), run_of S)) in
    progresses_same o (passed_all S fs (turned S c.args.turn)) c.further.result c.give_to.new.stack.items c.give_to.new.state
    (given_last S fs gs c.in-Some.frame (Ok (value_over S c.in-Give.v), run_of S) c.in-Some.ensures.items
    ∙ ap (λ t. passed_all S fs (turned S t)) (sym c.in-Give.is))
    (c.further.ensures.steps o c.give_to.new.stack.items c.give_to.new.state c.give_to.ensures.steps)

pub returns-in-Some-clause-fits : goal.returns-in-Some-clause-fits
returns-in-Some-clause-fits c = c.further.ensures.fits c.give_to.new.state c.give_to.ensures.fits

pub returns-in-Some-clause-falls : goal.returns-in-Some-clause-falls
returns-in-Some-clause-falls c =
    let S = c.args.state.now in
    let fs = c.args.stack.now.items in
    c.further.ensures.falls c.give_to.new.state c.give_to.new.stack.items (work_left S fs c.args.turn)
    (subst (λ u. IfOk c.give_to.result (λ t. work_left c.give_to.new.state c.give_to.new.stack.items t < work_left S fs u)) (sym c.in-Give.is)
    (give_falls S c.give_to.new.state fs c.pop.new.self.items c.give_to.new.stack.items c.in-Some.frame c.in-Give.v c.give_to.result
    c.in-Some.ensures.items c.give_to.ensures.further c.give_to.ensures.falls))

pub returns-in-Evaluate-clause-fits : goal.returns-in-Evaluate-clause-fits
returns-in-Evaluate-clause-fits c = c.further-in-Evaluate.ensures.fits c.go_into.new.state c.go_into.ensures.fits

pub returns-in-Await-clause-fits : goal.returns-in-Await-clause-fits
returns-in-Await-clause-fits c = c.further-in-Await.ensures.fits c.wait_for.new.state c.wait_for.ensures.fits

pub returns-in-Await-clause-falls : goal.returns-in-Await-clause-falls
returns-in-Await-clause-falls c =
    let S = c.args.state.now in
    let fs = c.args.stack.now.items in
    c.further-in-Await.ensures.falls c.wait_for.new.state c.wait_for.new.stack.items (work_left S fs c.args.turn)
    (subst (λ u. IfOk c.wait_for.result (λ t. work_left c.wait_for.new.state c.wait_for.new.stack.items t < work_left S fs u)) (sym c.in-Await.is) c.wait_for.ensures.falls)
