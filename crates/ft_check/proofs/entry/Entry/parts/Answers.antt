use Rattle.std.proofs.Common.{subst}
use Rattle.ft_check.specs.Entries.{EntryBelow}
use Rattle.ft_check.proofs.entry.Entry.parts.Goals as goal

pub returns-in-Thesis-clause-below : goal.returns-in-Thesis-clause-below
returns-in-Thesis-clause-below c = λ n h. c.thesis_parts.ensures.below n (subst (EntryBelow n) c.in-Thesis.is h)

pub returns-in-Boundary-clause-below : goal.returns-in-Boundary-clause-below
returns-in-Boundary-clause-below c = λ n h. c.boundary_parts.ensures.below n (subst (EntryBelow n) c.in-Boundary.is h)
