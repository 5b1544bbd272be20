use Rattle.std.proofs.Common.{◌≡◌, Some, option_map, take}
use Rattle.ft_items.specs.Store.{each, declared_by}
use Rattle.ft_kernel.specs.State.{entry_at}
use Rattle.ft_print.proofs.Listed.{sequent_lines}
use Rattle.ft_print.proofs.lines.sequent_lines.Given as goal

abbrev pub invariant-loop-j : goal.invariant-loop-j
invariant-loop-j l = Some l.out ≡ option_map (sequent_lines (declared_by l.k.items)) (each (entry_at l.k) (take l.j-index l.js))
