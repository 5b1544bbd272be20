use Rattle.std.proofs.Common.{take, sym, ◌∙◌}
use Rattle.ft_check.specs.Entries.{entry_in}
use Rattle.ft_check.proofs.Fits.{no_boundary_named, is_boundary_named}
use Rattle.ft_check.proofs.fitting.boundary_named.Goals as goal

pub returns-in-None-clause-entry : goal.returns-in-None-clause-entry
returns-in-None-clause-entry c = λ d g h. no_boundary_named (take c.args.i c.args.items.now.items) c.args.m d g h (sym c.in-None.is ∙ c.metavariable_before.ensures)

pub returns-in-Some-clause-entry : goal.returns-in-Some-clause-entry
returns-in-Some-clause-entry c = λ d g h.
    is_boundary_named (take c.args.i c.args.items.now.items) c.args.m c.in-Some.p d (entry_in c.args.items.now.trees) c.entry_before.result g h (sym c.in-Some.is ∙ c.metavariable_before.ensures) c.entry_before.ensures.entry
