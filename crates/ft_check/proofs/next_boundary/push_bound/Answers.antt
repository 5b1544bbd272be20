use Rattle.std.proofs.Common.{ap}
use Rattle.ft_check.specs.Entries.{entry_in}
use Rattle.ft_check.proofs.Fits.{no_thesis}
use Rattle.ft_check.proofs.next_boundary.push_bound.Goals as goal

pub returns-in-Thesis-clause-same : goal.returns-in-Thesis-clause-same
returns-in-Thesis-clause-same c = λ ts j h k. no_thesis ts c.in-Thesis.field-0.now (entry_in ts c.args.found).statement (ap (λ e. (entry_in ts e).statement) c.in-Thesis.is) h

pub returns-in-Thesis-wanted-clause-same : goal.returns-in-Thesis-wanted-clause-same
returns-in-Thesis-wanted-clause-same c = λ ts j h k. no_thesis ts c.in-Thesis-wanted.field-0.now (entry_in ts c.args.wanted).statement (ap (λ e. (entry_in ts e).statement) c.in-Thesis-wanted.is) k
