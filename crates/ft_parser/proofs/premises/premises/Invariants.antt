use Rattle.std.proofs.Common.{◌≡◌, ◌-◌, length, []}
use Rattle.ft_grammar.specs.declared.token.Mark.TheVariants.{LeftParen}
use Rattle.ft_grammar.specs.Rules.{is_mark}
use Rattle.ft_grammar.specs.Grammar.{premise, nesting}
use Rattle.ft_grammar.specs.Reading.{level, read, more_from}
use Rattle.ft_parser.proofs.premises.premises.Given as goal

abbrev pub invariant-loop-turn : goal.invariant-loop-turn
invariant-loop-turn l =
    let one = read (level nesting) premise in
    more_from (is_mark LeftParen) one (length l.fn.tokens) [] l.fn.tokens ≡ more_from (is_mark LeftParen) one (l._turn-end - l._turn) l.found l.tokens
