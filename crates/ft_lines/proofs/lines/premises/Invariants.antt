use Rattle.std.proofs.Common.{◌≡◌, ◌-◌, length, []}
use Rattle.ft_lines.specs.Lines.{premises_from}
use Rattle.ft_lines.proofs.lines.premises.Given as goal

abbrev pub invariant-loop-turn : goal.invariant-loop-turn
invariant-loop-turn l =
    premises_from (length l.fn.text) [] l.fn.text ≡ premises_from (l._turn-end - l._turn) l.found l.text
