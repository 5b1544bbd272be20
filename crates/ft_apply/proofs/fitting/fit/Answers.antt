use Rattle.std.proofs.Common.{subst}
use Rattle.ft_apply.specs.Named.{entry_of}
use Rattle.ft_apply.specs.Outcomes.{Asks, one_argument_checks}
use Rattle.ft_apply.specs.Instances.{boundary_at}
use Rattle.ft_apply.proofs.RuleLines.{met_boundary}
use Rattle.ft_apply.proofs.Fits.{met_is}
use Rattle.ft_apply.proofs.fitting.fit.Goals as goal

pub boundary_at-requires : goal.boundary_at-requires
boundary_at-requires c = met_boundary c.args.k.now c.args.m (c.met.result.now.name, c.met.result.now.boundary) c.met.ensures.good c.met.ensures.metavariable

pub returns-clause-checks : goal.returns-clause-checks
returns-clause-checks c =
    let s = c.args.k.now in
    subst (λ b. Asks c.fit_at.new.k.trees (one_argument_checks (boundary_at s.trees c.args.i.now.pairs b) (entry_of s.items c.args.j).statement) c.fit_at.result)
    (met_is s c.args.m (c.met.result.now.name, c.met.result.now.boundary) c.boundary_at.result.now c.in_ok-boundary.boundary c.met.ensures.metavariable c.boundary_at.ensures.boundary c.in_ok-boundary.ensures)
    c.fit_at.ensures.checks
