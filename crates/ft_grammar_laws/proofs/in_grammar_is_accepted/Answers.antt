use Rattle.ft_grammar_laws.proofs.Readings as readings
use Rattle.ft_grammar_laws.proofs.in_grammar_is_accepted.Goals as goal

pub returns : goal.returns
returns c = record { law = readings.source_is_read }
