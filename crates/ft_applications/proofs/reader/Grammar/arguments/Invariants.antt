use Rattle.std.proofs.Common.{◌≡◌, ◌-◌, length, []}
use Rattle.ft_applications.specs.Reading.{expression, arguments_from}
use Rattle.ft_applications.proofs.reader.Grammar.arguments.Given as goal

abbrev pub invariant-loop-turn : goal.invariant-loop-turn
invariant-loop-turn t l =
    arguments_from (expression l.self.depth) (length l.fn.tokens) [] l.fn.tokens ≡ arguments_from (expression l.self.depth) (l._turn-end - l._turn) l.found l.tokens
