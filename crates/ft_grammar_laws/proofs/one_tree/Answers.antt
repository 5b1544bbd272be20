use Rattle.ft_grammar_laws.proofs.Readings as readings
use Rattle.ft_grammar_laws.proofs.one_tree.Goals as goal

pub returns : goal.returns
returns c = record { law = readings.one_source }
