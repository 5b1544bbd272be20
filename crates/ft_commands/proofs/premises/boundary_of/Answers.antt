use Rattle.ft_running.proofs.Further.{further_both}
use Rattle.ft_commands.proofs.premises.boundary_of.Goals as goal

pub returns-in-Err-of_body-clause-further : goal.returns-in-Err-of_body-clause-further
returns-in-Err-of_body-clause-further c =
    further_both c.args.state.now c.bind_all.new.state c.of_body.new.state c.bind_all.ensures.further c.of_body.ensures.further

pub returns-clause-further : goal.returns-clause-further
returns-clause-further c =
    further_both c.args.state.now c.of_body.new.state c.abstract_all.new.state
    (further_both c.args.state.now c.bind_all.new.state c.of_body.new.state c.bind_all.ensures.further c.of_body.ensures.further) c.abstract_all.ensures.further
