use Rattle.ft_lexer.proofs.Pieces.{tokens_of-rising}
use Rattle.ft_lexer.proofs.laws.places_rise_within_the_text.Goals as goal

pub returns : goal.returns
returns c = tokens_of-rising
