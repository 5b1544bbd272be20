use Rattle.ft_running.specs.Evaluation.{run_of, environment_of}
use Rattle.ft_eval.specs.Frames.{value_of}
use Rattle.ft_eval.specs.Turns.{work_left}
use Rattle.ft_eval.proofs.Outwards.{Runs}
use Rattle.ft_eval.proofs.machine.evaluate.Given as goal

-- what the frames make of what the turn gives is the value of the expression
abbrev pub invariant-running : goal.invariant-running
invariant-running l =
    Runs l.fn.state l.state (value_of l.fn.e (environment_of l.fn.state l.fn.scope) (run_of l.fn.state)) l.stack.items l.turn

abbrev pub decreases-running : goal.decreases-running
decreases-running l = work_left l.state l.stack.items l.turn
