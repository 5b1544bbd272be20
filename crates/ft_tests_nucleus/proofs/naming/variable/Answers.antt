use Rattle.ft_tests_nucleus.proofs.Numbered.{variable_found}
use Rattle.ft_tests_nucleus.proofs.naming.variable.Goals as goal

pub returns-in-Var : goal.returns-in-Var
returns-in-Var c = variable_found c.args.k.now c.number.result c.var_numbered.result c.var_numbered.ensures
