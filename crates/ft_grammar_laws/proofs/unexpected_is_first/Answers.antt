use Rattle.ft_grammar_laws.proofs.Refusals as refusals
use Rattle.ft_grammar_laws.proofs.unexpected_is_first.Goals as goal

pub returns : goal.returns
returns c = record { law = refusals.unexpected_is_first }
