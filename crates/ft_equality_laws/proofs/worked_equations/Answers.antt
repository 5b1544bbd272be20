use Rattle.ft_equality_laws.proofs.Worked as worked
use Rattle.ft_equality_laws.proofs.worked_equations.Goals as goal

pub returns : goal.returns
returns c = record { computed = worked.one_and_one; other = worked.not_without_the_rule; trivial = worked.unit_is_trivial; functions = worked.functions_are_extensional; constant = worked.constant_is_another; metavariable = worked.metavariable_at_equal_terms; products = worked.products_of_numbers }
