use Rattle.std.proofs.Common.{◌≡◌, ◌-◌, length, []}
use Rattle.ft_grammar.specs.Forms.{is_no_end}
use Rattle.ft_grammar.specs.Grammar.{any_command, nesting}
use Rattle.ft_grammar.specs.Reading.{level, read, more_from}
use Rattle.ft_parser.proofs.commands.commands.Given as goal

abbrev pub invariant-loop-turn : goal.invariant-loop-turn
invariant-loop-turn l =
    let one = read (level nesting) any_command in
    more_from is_no_end one (length l.fn.tokens) [] l.fn.tokens ≡ more_from is_no_end one (l._turn-end - l._turn) l.found.items l.tokens
