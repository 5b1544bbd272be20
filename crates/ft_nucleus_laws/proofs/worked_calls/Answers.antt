use Rattle.ft_nucleus_laws.proofs.Rows as proved
use Rattle.ft_nucleus_laws.proofs.worked_calls.Goals as goal

pub returns : goal.returns
returns c = record { variables = proved.variable_rows; substitution = proved.substitution_rows; equality = proved.equality_rows; sides = proved.side_rows; rules = proved.rule_rows; deep = proved.deep_rows; congruence = proved.congruence_rows; applications = proved.application_rows; natural = proved.natural_rows }
