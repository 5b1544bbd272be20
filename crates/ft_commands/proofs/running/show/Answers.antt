use Rattle.ft_meaning.specs.Trees.{form, show_command}
use Rattle.ft_meaning.specs.Commands.{done}
use Rattle.ft_running.specs.Evaluation.{run_of}
use Rattle.ft_commands.specs.Doing.{named_in}
use Rattle.ft_commands.proofs.Doing.{value_shown, showing_ends, shown_ends, memory_stops}
use Rattle.ft_commands.proofs.running.show.Goals as goal

pub returns-in-Err-clause-tells : goal.returns-in-Err-clause-tells
returns-in-Err-clause-tells c = λ at. showing_ends c.args.state.now c.evaluate.new.state at (form c.args.e.now) c.in-Err.end c.in-Err.ensures.tells

pub returns-in-Err-shown-clause-tells : goal.returns-in-Err-shown-clause-tells
returns-in-Err-shown-clause-tells c = λ at.
    shown_ends c.args.state.now c.evaluate.new.state at (form c.args.e.now) c.in-Ok.v c.in-Err-shown.end c.in-Ok.ensures.tells c.in-Err-shown.ensures

pub returns-in-Ok-mark-clause-tells : goal.returns-in-Ok-mark-clause-tells
returns-in-Ok-mark-clause-tells c = λ at.
    value_shown c.args.state.now c.evaluate.new.state c.mark.new.state at (form c.args.e.now) c.in-Ok.v c.in-Ok-shown.done c.holds.ensures c.holds-2.ensures c.evaluate.ensures.further
    c.in-Ok.ensures.tells c.in-Ok-shown.ensures c.in-Ok-mark.ensures.ok

pub returns-in-Err-mark-clause-tells : goal.returns-in-Err-mark-clause-tells
returns-in-Err-mark-clause-tells c = λ at.
    memory_stops (done (show_command at (form c.args.e.now)) (named_in c.args.state.now) (run_of c.args.state.now)) c.args.state.now c.mark.new.state c.from.result c.from.ensures
