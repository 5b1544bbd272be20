use Rattle.std.proofs.Common.{◌≡◌, Some, map, take}
use Rattle.ft_applications_meaning.specs.Building.{claim_of, all_of}
use Rattle.ft_run.specs.Session.{AreClaimed, claims_in, Keeps}
use Rattle.ft_run.proofs.Nodes.{nodes}
use Rattle.ft_run.proofs.session.Session.+claim.Given as goal

abbrev pub invariant-loop-argument : goal.invariant-loop-argument
invariant-loop-argument l = record {
  given : AreClaimed l.self.state l.given.items;
  claims : all_of (map (claim_of l.fn.self.rules) (take l.argument-index l.arguments)) ≡ Some (claims_in l.self.state.trees l.given.items);
  keeps : Keeps l.fn.self l.self;
}

abbrev pub decreases-claim : goal.decreases-claim
decreases-claim l = nodes l.a.now
