use Rattle.ft_calls.specs.Named.{IsVariableAt}
use Rattle.ft_calls.proofs.Variables.{variable_is, plain_type_thesis}
use Rattle.ft_parts.proofs.Declared.{annotated_type}
use Rattle.ft_parts.proofs.reading.annotation.Goals as goal

pub type_at-requires-clause-plain : goal.type_at-requires-clause-plain
type_at-requires-clause-plain c =
    let t : IsVariableAt c.args.k.now c.args.v c.var.result.now.ty = variable_is c.args.k.now c.args.v c.var.result.now.name c.var.result.now.ty c.var.ensures.good c.var.ensures.variable in
    (t.1, t.2, t.3)

pub type_at-requires-clause-thesis : goal.type_at-requires-clause-thesis
type_at-requires-clause-thesis c =
    let t : IsVariableAt c.args.k.now c.args.v c.var.result.now.ty = variable_is c.args.k.now c.args.v c.var.result.now.name c.var.result.now.ty c.var.ensures.good c.var.ensures.variable in
    (t.1, t.2, plain_type_thesis t.1.statement t.3)

pub returns-clause-ty : goal.returns-clause-ty
returns-clause-ty c =
    annotated_type c.args.k.now c.args.v c.var.result.now.ty c.type_at.result
    (variable_is c.args.k.now c.args.v c.var.result.now.name c.var.result.now.ty c.var.ensures.good c.var.ensures.variable) c.type_at.ensures.statement
