use Rattle.ft_lexer.proofs.Pieces.{tokens_of-made}
use Rattle.ft_lexer.proofs.laws.a_text_is_made_of_its_tokens.Goals as goal

pub returns : goal.returns
returns c = tokens_of-made
