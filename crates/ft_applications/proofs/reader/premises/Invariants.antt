use Rattle.std.proofs.Common.{◌≡◌, ◌-◌, length, []}
use Rattle.ft_applications.specs.Reading.{premises_from}
use Rattle.ft_applications.proofs.reader.premises.Given as goal

abbrev pub invariant-loop-turn : goal.invariant-loop-turn
invariant-loop-turn l =
    premises_from (length l.fn.tokens) [] l.fn.tokens ≡ premises_from (l._turn-end - l._turn) l.found l.tokens
