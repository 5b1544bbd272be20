use Rattle.std.proofs.Common.{ap}
use Rattle.ft_theory.specs.Expressions.{symbol, instantiate}
use Rattle.ft_syntax.specs.Instances.{instance_in}
use Rattle.ft_syntax.specs.Table.{arguments_in}
use Rattle.ft_check.specs.Entries.{entry_in}
use Rattle.ft_check.proofs.Concludes.{boundary_no_conclusion}
use Rattle.ft_check.proofs.concluding.is_conclusion.Goals as goal

pub returns-in-Boundary : goal.returns-in-Boundary
returns-in-Boundary c =
    boundary_no_conclusion c.args.terms.now c.in-Boundary.field-0.now c.args.rule.now.goal (symbol c.args.rule.now.symbol (arguments_in c.args.put.now.terms c.args.put.now.arguments.items))
    (instantiate (instance_in c.args.put.now.terms c.args.put.now.instance.pairs)) (entry_in c.args.terms.now c.args.found).statement (ap (λ e. (entry_in c.args.terms.now e).statement) c.in-Boundary.is)
