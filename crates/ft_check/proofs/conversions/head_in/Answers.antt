use Rattle.std.proofs.Common.{sym, ap, ◌∙◌}
use Rattle.ft_judge.specs.Meaning.{head_of_statement}
use Rattle.ft_check.specs.Entries.{entry_in}
use Rattle.ft_check.proofs.Moved.{boundary_head}
use Rattle.ft_check.proofs.conversions.head_in.Goals as goal

pub returns-in-Boundary-clause-is : goal.returns-in-Boundary-clause-is
returns-in-Boundary-clause-is c = λ ts. boundary_head ts c.in-Boundary.field-0.now (entry_in ts c.args.x).statement (ap (λ e. (entry_in ts e).statement) c.in-Boundary.is)

pub returns-in-Thesis-clause-is : goal.returns-in-Thesis-clause-is
returns-in-Thesis-clause-is c = λ ts. c.head_of.ensures.meaning ts ∙ ap head_of_statement (sym (ap (λ e. (entry_in ts e).statement) c.in-Thesis.is))
