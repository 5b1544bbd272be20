use Rattle.ft_running.specs.Evaluation.{environment_of, value_over}
use Rattle.ft_running.proofs.Further.{environment_further}
use Rattle.ft_eval.specs.Frames.{turned}
use Rattle.ft_eval.proofs.Resumed.{term_turns}
use Rattle.ft_eval.proofs.resuming.term.Goals as goal

pub returns-in-Ok-clause-turns : goal.returns-in-Ok-clause-turns
returns-in-Ok-clause-turns c =
    term_turns c.args.state.now c.substitute.new.self c.args.at (value_over c.args.state.now c.args.into) (value_over c.args.state.now c.args.v) c.args.rest.now
    (environment_of c.args.state.now c.args.scope) (environment_of c.substitute.new.self c.args.scope) c.in-Ok.w (turned c.substitute.new.self c.put.result)
    c.in-Ok.ensures.tells.0
    (environment_further c.args.state.now c.substitute.new.self c.args.scope c.holds.ensures c.substitute.ensures.further c.requires.scope)
    c.put.ensures.turns
