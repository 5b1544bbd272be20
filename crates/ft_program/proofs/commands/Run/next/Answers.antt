use Rattle.std.proofs.Common.{rules}
use Rattle.ft_program.proofs.Stepping.{rest_asks}
use Rattle.ft_program.proofs.commands.Run.next.Goals as goal

pub perform-requires-clause-rest : goal.perform-requires-clause-rest
perform-requires-clause-rest c =
    rest_asks c.args.self.now (record { rest = c.pop.new.self; scope = c.check_command.new.s; state = c.args.self.now.state }) c.in-Some.command
    (record { fits = c.requires.fits; asks = c.requires.asks }) (search rules)
