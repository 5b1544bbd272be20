use Rattle.std.proofs.Common.{◌≡◌, ◌-◌, length}
use Rattle.ft_grammar.specs.declared.token.Mark.TheVariants.{Bar}
use Rattle.ft_grammar.specs.Rules.{is_mark}
use Rattle.ft_grammar.specs.Grammar.{operation_case}
use Rattle.ft_grammar.specs.Reading.{level, read, more_from}
use Rattle.ft_parser.proofs.expressions.Expressions.more_operation_cases.Given as goal

abbrev pub invariant-loop-turn : goal.invariant-loop-turn
invariant-loop-turn t l =
    let one = read (level l.self.depth) operation_case in
    more_from (is_mark Bar) one (length l.fn.tokens) l.fn.found l.fn.tokens ≡ more_from (is_mark Bar) one (l._turn-end - l._turn) l.found l.tokens
