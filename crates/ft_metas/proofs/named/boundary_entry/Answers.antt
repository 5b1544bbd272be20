use Rattle.ft_metas.proofs.Declared.{boundary_there, boundary_declared, set_declared}
use Rattle.ft_metas.proofs.named.boundary_entry.Goals as goal

pub returns-clause-boundary : goal.returns-clause-boundary
returns-clause-boundary c = boundary_there c.args.k.now c.args.m c.met.result.now.name c.met.result.now.boundary c.met.ensures.good c.met.ensures.metavariable

pub returns-clause-statement : goal.returns-clause-statement
returns-clause-statement c = boundary_declared c.args.k.now.items c.args.m c.met.result.now.name c.met.result.now.boundary c.met.ensures.good c.met.ensures.metavariable

pub returns-clause-set : goal.returns-clause-set
returns-clause-set c = set_declared c.args.k.now.items c.args.m c.met.result.now.name c.met.result.now.boundary c.met.ensures.good c.met.ensures.metavariable
