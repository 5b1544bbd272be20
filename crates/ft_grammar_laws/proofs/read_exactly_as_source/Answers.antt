use Rattle.ft_grammar_laws.proofs.Readings as readings
use Rattle.ft_grammar_laws.proofs.read_exactly_as_source.Goals as goal

pub returns : goal.returns
returns c = record { law = readings.read_exactly_as_source; never_memory = readings.never_memory }
