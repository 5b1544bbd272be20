use Rattle.std.proofs.Common.{◌≡◌, ◌-◌, length, [], None}
use Rattle.ft_lines.specs.Sets.{atoms_from}
use Rattle.ft_lines.proofs.sets.atoms.Given as goal

abbrev pub invariant-loop-turn : goal.invariant-loop-turn
invariant-loop-turn l =
    atoms_from (length l.fn.text) None [] l.fn.text ≡ atoms_from (l._turn-end - l._turn) l.last l.found l.text
