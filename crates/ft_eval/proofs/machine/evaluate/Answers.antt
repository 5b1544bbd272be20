use Rattle.std.proofs.Common.{subst, Ok}
use Rattle.ft_running.specs.Evaluation.{run_of, environment_of}
use Rattle.ft_running.proofs.Further.{further_both}
use Rattle.ft_eval.specs.Fits.{TurnFits}
use Rattle.ft_eval.specs.Frames.{value_of, passed_all, turned}
use Rattle.ft_eval.specs.Progress.{ProgressesTo, IfFurther}
use Rattle.ft_eval.proofs.Outwards.{runs_on}
use Rattle.ft_eval.proofs.machine.evaluate.Goals as goal

pub returns-in-Ok-Done-clause-further : goal.returns-in-Ok-Done-clause-further
returns-in-Ok-Done-clause-further c =
    further_both c.args.state.now c.running.state c.step.new.state c.running.invariant.further c.step.ensures.further

pub running-preserved : goal.running-preserved
running-preserved c =
    runs_on c.args.state.now c.running.state c.step.new.state (value_of c.args.e.now (environment_of c.args.state.now c.args.scope) (run_of c.args.state.now))
    c.running.stack.items c.step.new.stack.items c.running.turn c.in-Ok-Further.next c.running.invariant c.step.ensures.further c.step.ensures.frames
    (subst (λ p. IfFurther (Ok p) (λ t. TurnFits c.step.new.state t)) c.in-Ok-Further.field-0-is c.in-Ok-Further.ensures.fits)
    (subst (λ p. ProgressesTo (passed_all c.running.state c.running.stack.items (turned c.running.state c.running.turn)) (Ok p) c.step.new.stack.items c.step.new.state)
    c.in-Ok-Further.field-0-is c.in-Ok-Further.ensures.steps)

pub returns-in-Err-clause-further : goal.returns-in-Err-clause-further
returns-in-Err-clause-further c =
    further_both c.args.state.now c.running.state c.step.new.state c.running.invariant.further c.step.ensures.further
