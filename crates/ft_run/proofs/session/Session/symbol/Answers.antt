use Rattle.ft_run.proofs.Keeping.{session_extends, keeps_from}
use Rattle.ft_run.proofs.session.Session.symbol.Goals as goal

pub invariant_of-self : goal.invariant_of-self
invariant_of-self c = session_extends c.self.inside.kernel c.symbol.new.self c.self.inside.known.items c.self.invariant c.symbol.ensures.goes_on c.symbol.ensures.items

pub returns-clause-keeps : goal.returns-clause-keeps
returns-clause-keeps c =
    keeps_from c.args.self.now c.self.inside.kernel c.symbol.new.self c.self.inside.known.items c.self.view_is c.self.invariant c.symbol.ensures.goes_on c.symbol.ensures.items
