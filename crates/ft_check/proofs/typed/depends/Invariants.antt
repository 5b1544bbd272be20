use Rattle.std.proofs.Common.{◌≡◌, take, drop}
use Rattle.ft_assume.specs.Atoms.{atoms_of}
use Rattle.ft_items.specs.Good.{Good}
use Rattle.ft_items.specs.Rows.{depends}
use Rattle.ft_items.specs.Store.{declared_by}
use Rattle.ft_check.proofs.typed.depends.Given as goal

abbrev pub invariant-loop-k : goal.invariant-loop-k
invariant-loop-k l = Good (take l.i l.items.items) → depends (declared_by (take l.i l.items.items)).variables l.v (atoms_of l.atoms) ≡ depends (declared_by (take l.i l.items.items)).variables l.v (atoms_of (drop l.k l.atoms))
