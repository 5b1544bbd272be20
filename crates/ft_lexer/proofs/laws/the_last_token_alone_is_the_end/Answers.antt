use Rattle.ft_lexer.proofs.Pieces.{tokens_of-ended}
use Rattle.ft_lexer.proofs.laws.the_last_token_alone_is_the_end.Goals as goal

pub returns : goal.returns
returns c = tokens_of-ended
