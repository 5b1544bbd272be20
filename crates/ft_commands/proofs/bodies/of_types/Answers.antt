use Rattle.ft_running.proofs.Further.{further_both, thesis_further}
use Rattle.ft_commands.proofs.bodies.of_types.Goals as goal

pub returns-in-Err-claim-clause-further : goal.returns-in-Err-claim-clause-further
returns-in-Err-claim-clause-further c =
    further_both c.args.state.now c.claim.new.state c.claim-2.new.state c.claim.ensures.further c.claim-2.ensures.further

pub boundary_types-requires : goal.boundary_types-requires
boundary_types-requires c = record {
  theses = (thesis_further c.claim.new.state c.claim-2.new.state c.in-Ok.a c.claim-2.ensures.further c.in-Ok.ensures.tells.1, c.in-Ok-claim.ensures.tells.1);
}

pub returns-clause-further : goal.returns-clause-further
returns-clause-further c =
    further_both c.args.state.now c.claim-2.new.state c.boundary_types.new.state
    (further_both c.args.state.now c.claim.new.state c.claim-2.new.state c.claim.ensures.further c.claim-2.ensures.further) c.boundary_types.ensures.further
