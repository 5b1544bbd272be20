use Rattle.std.proofs.Common.{◌≡◌, ◌-◌, length, []}
use Rattle.ft_lines.specs.Steps.{parts_from}
use Rattle.ft_lines.proofs.steps.parts.Given as goal

abbrev pub invariant-loop-turn : goal.invariant-loop-turn
invariant-loop-turn l =
    parts_from (length l.fn.text) [] l.fn.text ≡ parts_from (l._turn-end - l._turn) l.found l.text
