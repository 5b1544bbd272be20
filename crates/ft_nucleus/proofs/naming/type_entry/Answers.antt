use Rattle.ft_calls.specs.Named.{IsVariableAt}
use Rattle.ft_calls.proofs.Variables.{variable_is, plain_type_thesis}
use Rattle.ft_nucleus.proofs.naming.type_entry.Goals as goal

pub returns-clause-declared : goal.returns-clause-declared
returns-clause-declared c = variable_is c.args.k.now c.args.v c.var.result.now.name c.var.result.now.ty c.var.ensures.good c.var.ensures.variable

pub returns-clause-thesis : goal.returns-clause-thesis
returns-clause-thesis c =
    let t : IsVariableAt c.args.k.now c.args.v c.var.result.now.ty = variable_is c.args.k.now c.args.v c.var.result.now.name c.var.result.now.ty c.var.ensures.good c.var.ensures.variable in
    (t.1, t.2, plain_type_thesis t.1.statement t.3)
