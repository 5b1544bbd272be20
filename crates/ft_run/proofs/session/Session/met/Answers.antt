use Rattle.std.proofs.Common.{ap, sym, subst}
use Rattle.ft_run.specs.Session.{Progress}
use Rattle.ft_run.specs.Asking.{HasGoal}
use Rattle.ft_run.proofs.Going.{met_allowed, session_after_met, mets_after}
use Rattle.ft_run.proofs.session.Session.met.Goals as goal

pub push_met-requires : goal.push_met-requires
push_met-requires c =
    met_allowed c.self.inside.kernel c.in_ok-copy.field-0 c.args.b (subst (λ (p : Progress). HasGoal p.state c.args.b) (sym c.self.view_is) c.requires)

pub invariant_of-self : goal.invariant_of-self
invariant_of-self c =
    session_after_met c.push_met.result c.self.inside.kernel c.push_met.new.self c.in_ok-copy.field-0 c.args.b c.self.inside.known.items c.self.invariant c.push_met.ensures.list c.push_met.ensures.err

pub returns-clause-met : goal.returns-clause-met
returns-clause-met c =
    mets_after c.push_met.result c.self.inside.kernel c.push_met.new.self c.in_ok-copy.field-0 c.args.b c.args.self.now (ap (λ (p : Progress). p.state) c.self.view_is) c.terms-terms.ensures.good c.push_met.ensures.number c.push_met.ensures.list
