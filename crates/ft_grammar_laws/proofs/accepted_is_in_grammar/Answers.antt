use Rattle.ft_grammar_laws.proofs.Readings as readings
use Rattle.ft_grammar_laws.proofs.accepted_is_in_grammar.Goals as goal

pub returns : goal.returns
returns c = record { law = readings.read_is_source }
