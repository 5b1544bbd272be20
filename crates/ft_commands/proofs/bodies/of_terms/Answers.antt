use Rattle.ft_meaning.specs.Trees.{form}
use Rattle.ft_running.proofs.Further.{further_both, thesis_further}
use Rattle.ft_commands.proofs.Bounded.{terms_bounded, terms_third_ends}
use Rattle.ft_commands.proofs.bodies.of_terms.Goals as goal

pub returns-in-Err-claim-clause-further : goal.returns-in-Err-claim-clause-further
returns-in-Err-claim-clause-further c =
    further_both c.args.state.now c.claim.new.state c.claim-2.new.state c.claim.ensures.further c.claim-2.ensures.further

pub returns-in-Err-claim-2-clause-tells : goal.returns-in-Err-claim-2-clause-tells
returns-in-Err-claim-2-clause-tells c =
    terms_third_ends c.args.state.now c.claim.new.state c.claim-2.new.state c.claim-3.new.state c.args.at (form c.args.left.now) (form c.args.right.now) (form c.args.ty.now)
    c.args.scope c.in-Ok.s c.in-Ok-claim.t c.in-Err-claim-2.end c.holds.ensures c.claim.ensures.further c.requires.scope c.claim-2.ensures.further
    (further_both c.args.state.now c.claim.new.state c.claim-2.new.state c.claim.ensures.further c.claim-2.ensures.further)
    c.in-Ok.ensures.tells c.in-Ok-claim.ensures.tells c.in-Err-claim-2.ensures.tells

pub returns-in-Err-claim-2-clause-further : goal.returns-in-Err-claim-2-clause-further
returns-in-Err-claim-2-clause-further c =
    further_both c.args.state.now c.claim-2.new.state c.claim-3.new.state
    (further_both c.args.state.now c.claim.new.state c.claim-2.new.state c.claim.ensures.further c.claim-2.ensures.further) c.claim-3.ensures.further

pub boundary_terms-requires-clause-sides : goal.boundary_terms-requires-clause-sides
boundary_terms-requires-clause-sides c = (
  thesis_further c.claim-2.new.state c.claim-3.new.state c.in-Ok.s c.claim-3.ensures.further
      (thesis_further c.claim.new.state c.claim-2.new.state c.in-Ok.s c.claim-2.ensures.further c.in-Ok.ensures.tells.1),
  thesis_further c.claim-2.new.state c.claim-3.new.state c.in-Ok-claim.t c.claim-3.ensures.further c.in-Ok-claim.ensures.tells.1,
)

pub returns-clause-tells : goal.returns-clause-tells
returns-clause-tells c =
    terms_bounded c.args.state.now c.claim.new.state c.claim-2.new.state c.claim-3.new.state c.boundary_terms.new.state c.args.at (form c.args.left.now) (form c.args.right.now) (form c.args.ty.now)
    c.args.scope c.in-Ok.s c.in-Ok-claim.t c.in-Ok-claim-2.a c.boundary_terms.result c.holds.ensures c.claim.ensures.further c.requires.scope c.claim-2.ensures.further
    (further_both c.args.state.now c.claim.new.state c.claim-2.new.state c.claim.ensures.further c.claim-2.ensures.further) c.claim-3.ensures.further
    c.in-Ok.ensures.tells c.in-Ok-claim.ensures.tells c.in-Ok-claim-2.ensures.tells
    (thesis_further c.claim.new.state c.claim-2.new.state c.in-Ok.s c.claim-2.ensures.further c.in-Ok.ensures.tells.1)
    c.boundary_terms.ensures.tells

pub returns-clause-further : goal.returns-clause-further
returns-clause-further c =
    further_both c.args.state.now c.claim-3.new.state c.boundary_terms.new.state
    (further_both c.args.state.now c.claim-2.new.state c.claim-3.new.state
    (further_both c.args.state.now c.claim.new.state c.claim-2.new.state c.claim.ensures.further c.claim-2.ensures.further) c.claim-3.ensures.further)
    c.boundary_terms.ensures.further
