use Rattle.ft_calling.proofs.VariablesCalled.{variable_told}
use Rattle.ft_calling.proofs.binding.new_variable.Goals as goal

pub returns-clause-told : goal.returns-clause-told
returns-clause-told c = variable_told c.args.k.now c.new_var.new.k c.args.units.now c.spend.new.units c.args.at c.used-number.result c.args.name.now c.args.ty c.new_var.result c.halted_variable.result c.used-number.ensures.value c.terms-terms.ensures.good c.requires.below c.requires.ty c.in-Ok.ensures.means c.in-Ok.ensures.used c.new_var.ensures.declares c.new_var.ensures.variable c.halted_variable.ensures
