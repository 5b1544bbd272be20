use Rattle.std.proofs.Common.{rules, ◌≡◌}
use Rattle.ft_kernel.specs.State.{place_of_name, rule_names}
use Rattle.ft_run.proofs.Naming.{place_some}
use Rattle.ft_run.proofs.session.Session.place.Goals as goal

pub returns-clause-some : goal.returns-clause-some
returns-clause-some c =
    let place : c.map.result ≡ place_of_name (rule_names c.self.inside.kernel.items) c.args.name.now = search rules in
    place_some c.self.inside.kernel c.self.inside.known.items c.args.self.now c.args.name.now c.map.result c.self.invariant c.terms-terms.ensures.good c.self.view_is place
