use Rattle.std.proofs.Common.{◌∙◌, ap}
use Rattle.ft_kernel.specs.State.{entry_at}
use Rattle.ft_kernel.proofs.Contents.{only_boundary}
use Rattle.ft_kernel.proofs.kernel.Kernel.set_of.Goals as goal

pub unreachable-requires : goal.unreachable-requires
unreachable-requires c = only_boundary c.args.self.now.trees c.entry.result.now c.requires.0
    (c.entry.ensures.entry ∙ ap (entry_at c.args.self.now) c.number.ensures ∙ c.requires.1) c.requires.2 c.in_default.not-Boundary
