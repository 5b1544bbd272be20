use Rattle.std.proofs.Common.{◌≡◌, ◌-◌, length, []}
use Rattle.ft_grammar.specs.declared.token.Mark.TheVariants.{LeftBrace}
use Rattle.ft_grammar.specs.Rules.{is_mark}
use Rattle.ft_grammar.specs.Grammar.{binder, nesting}
use Rattle.ft_grammar.specs.Reading.{level, read, more_from}
use Rattle.ft_parser.proofs.premises.binders.Given as goal

abbrev pub invariant-loop-turn : goal.invariant-loop-turn
invariant-loop-turn l =
    let one = read (level nesting) binder in
    more_from (is_mark LeftBrace) one (length l.fn.tokens) [] l.fn.tokens ≡ more_from (is_mark LeftBrace) one (l._turn-end - l._turn) l.found l.tokens
