use Rattle.ft_laws.proofs.SyntaxLaws.{substitution_after_substitution, substitution_of_absent, open_is_substitution}
use Rattle.ft_laws.proofs.law_substitution_of_expressions.Goals as goal

pub returns : goal.returns
returns c = record { after = substitution_after_substitution; absent = substitution_of_absent; opening = open_is_substitution }
