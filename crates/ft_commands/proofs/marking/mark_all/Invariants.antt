use Rattle.std.proofs.Common.{◌≡◌, take}
use Rattle.ft_commands.specs.Doing.{with_marks}
use Rattle.ft_commands.proofs.marking.mark_all.Given as goal

-- the entries so far are marked
abbrev pub invariant-loop-j : goal.invariant-loop-j
invariant-loop-j l = l.state ≡ with_marks (take l.j-index l.js) l.fn.state
