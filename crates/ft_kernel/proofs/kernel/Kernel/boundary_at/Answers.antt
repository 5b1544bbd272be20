use Rattle.std.proofs.Common.{◌∙◌, ap, sym}
use Rattle.ft_kernel.specs.State.{entry_at}
use Rattle.ft_kernel.specs.Lines.{assertion_in}
use Rattle.ft_kernel.proofs.Closed.{entry_closed}
use Rattle.ft_kernel.proofs.Contents.{only_boundary}
use Rattle.ft_kernel.proofs.kernel.Kernel.boundary_at.Goals as goal

pub unreachable-requires : goal.unreachable-requires
unreachable-requires c = only_boundary c.args.self.now.trees c.entry.result.now c.requires.0
    (c.entry.ensures.entry ∙ ap (entry_at c.args.self.now) c.number.ensures ∙ c.requires.1) c.requires.2 c.in_default.not-Boundary

pub returns-clause-closed : goal.returns-clause-closed
returns-clause-closed c = entry_closed c.args.self.now.items c.entry.ensures.good c.number.result _
    (sym c.entry.ensures.entry ∙ ap (assertion_in c.args.self.now.trees) c.in-Boundary.is)
