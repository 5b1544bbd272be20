use Rattle.ft_lexer.proofs.Joined.{tokens_of-append}
use Rattle.ft_lexer.proofs.laws.a_line_feed_joins_texts.Goals as goal

pub returns : goal.returns
returns c = tokens_of-append
