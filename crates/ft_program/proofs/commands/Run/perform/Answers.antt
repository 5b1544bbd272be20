use Rattle.std.proofs.Common.{refl, Ok}
use Rattle.ft_meaning.specs.Trees.{command_of}
use Rattle.ft_meaning.specs.Commands.{run_command}
use Rattle.ft_running.specs.Evaluation.{run_of}
use Rattle.ft_commands.specs.Doing.{named_in}
use Rattle.ft_program.specs.Running.{StepsFrom, performed, IsTold, IsHalted}
use Rattle.ft_program.proofs.Halting.{ok_map}
use Rattle.ft_program.proofs.Stepping.{halts, done_steps, halted_steps, steps_any, at_state}
use Rattle.ft_program.proofs.commands.Run.perform.Goals as goal

pub halted-requires : goal.halted-requires
halted-requires c =
    halts (run_command (command_of c.args.c.now) (named_in c.args.self.now.state) (run_of c.args.self.now.state)) c.args.self.now.state c.run_command.new.state c.in-Err.fault c.in-Err.ensures.tells

pub returns-in-Ok-clause-steps : goal.returns-in-Ok-clause-steps
returns-in-Ok-clause-steps c =
    let r = c.args.self.now in
    let q = at_state r c.run_command.new.state in
    let t = performed c.args.source.now (command_of c.args.c.now) r in
    steps_any c.args.source.now t r.state.list c.told.result q
    (ok_map c.told.result (λ s. IsTold c.run_command.new.state c.in-Ok.done s) (λ s. StepsFrom c.args.source.now t r.state.list (Ok s) q)
    (λ s lines. done_steps c.args.source.now (command_of c.args.c.now) r q c.in-Ok.done s c.typed_commands_fit.ensures.law c.requires.typed c.requires.rest c.in-Ok.ensures.tells refl lines) c.told.ensures)
    c.in-Ok.ensures.more

pub returns-in-Err-clause-steps : goal.returns-in-Err-clause-steps
returns-in-Err-clause-steps c =
    let r = c.args.self.now in
    let q = at_state r c.run_command.new.state in
    let t = performed c.args.source.now (command_of c.args.c.now) r in
    steps_any c.args.source.now t r.state.list c.halted.result q
    (ok_map c.halted.result (λ s. IsHalted c.args.source.now (command_of c.args.c.now) c.run_command.new.state c.in-Err.fault s) (λ s. StepsFrom c.args.source.now t r.state.list (Ok s) q)
    (λ s line. halted_steps c.args.source.now (command_of c.args.c.now) r q c.in-Err.fault s c.in-Err.ensures.tells c.in-Err.ensures.quiet line) c.halted.ensures)
    c.in-Err.ensures.more
