use Rattle.ft_parts.proofs.Declared.{variable_found, variable_missing}
use Rattle.ft_parts.proofs.reading.type_of_variable.Goals as goal

pub annotation-requires : goal.annotation-requires
annotation-requires c = variable_found c.args.k.now c.args.v c.in-Some.variable c.var_numbered.result c.var_numbered.ensures c.in-Some.is

pub returns-in-None-clause-ty : goal.returns-in-None-clause-ty
returns-in-None-clause-ty c = variable_missing c.args.k.now c.args.v c.var_numbered.result c.terms-terms.ensures.good c.var_numbered.ensures c.in-None.is
