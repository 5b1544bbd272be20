use Rattle.std.proofs.Common.{ap}
use Rattle.ft_check.specs.Entries.{entry_in}
use Rattle.ft_check.proofs.Congruent.{boundary_no_equation}
use Rattle.ft_check.proofs.congruences.is_congruence.Goals as goal

pub returns-in-Boundary : goal.returns-in-Boundary
returns-in-Boundary c = λ o.
    boundary_no_equation c.args.terms.now c.in-Boundary.field-0.now c.args.sides.now c.args.rule.now (entry_in c.args.terms.now c.args.found).statement (ap (λ e. (entry_in c.args.terms.now e).statement) c.in-Boundary.is) o
