use Rattle.ft_running.proofs.Further.{further_both}
use Rattle.ft_commands.proofs.bodies.of_term.Goals as goal

pub returns-clause-further : goal.returns-clause-further
returns-clause-further c =
    further_both c.args.state.now c.claim.new.state c.boundary_term.new.state c.claim.ensures.further c.boundary_term.ensures.further
