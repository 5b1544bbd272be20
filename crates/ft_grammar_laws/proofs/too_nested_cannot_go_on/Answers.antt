use Rattle.ft_grammar_laws.proofs.Refusals as refusals
use Rattle.ft_grammar_laws.proofs.too_nested_cannot_go_on.Goals as goal

pub returns : goal.returns
returns c = record { law = refusals.too_nested_cannot_go_on }
