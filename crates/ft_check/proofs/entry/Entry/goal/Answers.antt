use Rattle.std.proofs.Common.{ap}
use Rattle.ft_check.specs.Entries.{entry_in}
use Rattle.ft_check.proofs.Fits.{no_thesis}
use Rattle.ft_check.proofs.entry.Entry.goal.Goals as goal

pub returns-in-Thesis-clause-is : goal.returns-in-Thesis-clause-is
returns-in-Thesis-clause-is c = λ ts h k. no_thesis ts c.in-Thesis.field-0.now (entry_in ts c.args.self).statement (ap (λ e. (entry_in ts e).statement) c.in-Thesis.is) h
