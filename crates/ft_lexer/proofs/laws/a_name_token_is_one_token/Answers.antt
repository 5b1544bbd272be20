use Rattle.ft_lexer.proofs.Joined.{tokens_of-name}
use Rattle.ft_lexer.proofs.laws.a_name_token_is_one_token.Goals as goal

pub returns : goal.returns
returns c = tokens_of-name
