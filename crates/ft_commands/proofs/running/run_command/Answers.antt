use Rattle.std.proofs.Common.{sym, subst}
use Rattle.ft_meaning.specs.Trees.{command_of}
use Rattle.ft_meaning.specs.Commands.{done, run_command}
use Rattle.ft_running.specs.Evaluation.{Evaluation, run_of}
use Rattle.ft_commands.specs.Doing.{named_in, TellsFault}
use Rattle.ft_commands.proofs.Doing.{quiet_cleared}
use Rattle.ft_commands.proofs.running.run_command.Goals as goal

pub returns-in-Err-clause-tells : goal.returns-in-Err-clause-tells
returns-in-Err-clause-tells c =
    subst (λ (e : Evaluation). TellsFault (run_command (command_of c.args.c.now) (named_in c.args.state.now) (run_of c.args.state.now)) c.fault_of.result e) (sym c.clear_scopes-in-Err.ensures)
    (c.fault_of.ensures.tells (done (command_of c.args.c.now) (named_in c.args.state.now) (run_of c.args.state.now)) c.perform.new.state c.in-Err.ensures.tells)

pub returns-in-Err-clause-quiet : goal.returns-in-Err-clause-quiet
returns-in-Err-clause-quiet c = λ no.
    quiet_cleared c.args.state.now c.perform.new.state c.clear_scopes-in-Err.new.self c.clear_scopes-in-Err.ensures (c.in-Err.ensures.quiet (λ memory. no (c.fault_of.ensures.memory memory)))
