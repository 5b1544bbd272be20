use Rattle.ft_grammar_laws.proofs.Readings as readings
use Rattle.ft_grammar_laws.proofs.tokens_closed.Goals as goal

pub returns : goal.returns
returns c = record { law = readings.tokens_closed }
