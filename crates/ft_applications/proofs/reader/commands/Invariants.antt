use Rattle.std.proofs.Common.{◌≡◌, ◌-◌, length, []}
use Rattle.ft_applications.specs.Reading.{commands_from}
use Rattle.ft_applications.proofs.reader.commands.Given as goal

abbrev pub invariant-loop-turn : goal.invariant-loop-turn
invariant-loop-turn l =
    commands_from (length l.fn.tokens) [] l.fn.tokens ≡ commands_from (l._turn-end - l._turn) l.found l.tokens
