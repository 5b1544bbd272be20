use Rattle.ft_parser.proofs.Answered.{accepted, refused, unexpected, too_nested}
use Rattle.ft_parser.proofs.source.parse.Goals as goal

pub returns-clause-accepted : goal.returns-clause-accepted
returns-clause-accepted c = accepted c.accepted_is_in_grammar.ensures.law _ c.args.tokens.now c.read_source.result c.requires c.read_source.ensures

pub returns-clause-refused : goal.returns-clause-refused
returns-clause-refused c = refused c.in_grammar_is_accepted.ensures.law _ c.args.tokens.now c.read_source.result c.read_source.ensures

pub returns-clause-unexpected : goal.returns-clause-unexpected
returns-clause-unexpected c = λ at. unexpected c.unexpected_is_first.ensures.law _ c.args.tokens.now c.read_source.result at c.requires c.read_source.ensures

pub returns-clause-too_nested : goal.returns-clause-too_nested
returns-clause-too_nested c = λ at. too_nested c.too_nested_cannot_go_on.ensures.law _ c.args.tokens.now c.read_source.result at c.requires c.read_source.ensures
