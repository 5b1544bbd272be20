use Rattle.ft_meaning.specs.Trees.{form}
use Rattle.ft_meaning.specs.Commands.{done}
use Rattle.ft_meaning.specs.Trees.{let_command}
use Rattle.ft_running.specs.Evaluation.{run_of}
use Rattle.ft_commands.specs.Doing.{named_in}
use Rattle.ft_commands.proofs.Doing.{value_named, naming_ends, memory_stops}
use Rattle.ft_commands.proofs.running.name_value.Goals as goal

pub returns-in-Err-clause-tells : goal.returns-in-Err-clause-tells
returns-in-Err-clause-tells c = λ at. naming_ends c.args.state.now c.evaluate.new.state at c.args.name.now (form c.args.e.now) c.in-Err.end c.in-Err.ensures.tells

pub returns-in-Ok-declare-clause-tells : goal.returns-in-Ok-declare-clause-tells
returns-in-Ok-declare-clause-tells c = λ at.
    value_named c.args.state.now c.evaluate.new.state c.declare.new.self at c.args.name.now (form c.args.e.now) c.in-Ok.v c.holds.ensures c.evaluate.ensures.further
    c.in-Ok.ensures.tells c.in-Ok-declare.ensures.ok

pub returns-in-Err-declare-clause-tells : goal.returns-in-Err-declare-clause-tells
returns-in-Err-declare-clause-tells c = λ at.
    memory_stops (done (let_command at c.args.name.now (form c.args.e.now)) (named_in c.args.state.now) (run_of c.args.state.now)) c.args.state.now c.declare.new.self c.from.result c.from.ensures
