use Rattle.std.proofs.Common.{length, ◌-◌, ◌≡◌, ◌≤◌, ◌+◌, drop}
use Rattle.ft_items.specs.Sets.{is_within}
use Rattle.ft_assume.specs.Atoms.{atoms_of}
use Rattle.ft_assume.proofs.assume.is_part.Given as goal

abbrev pub invariant-walking : goal.invariant-walking
invariant-walking l = record {
  left : l.i ≤ length l.left;
  right : l.j ≤ length l.right;
  rest : is_within (atoms_of (drop l.i l.left)) (atoms_of (drop l.j l.right)) ≡ is_within (atoms_of l.left) (atoms_of l.right);
}

abbrev pub decreases-walking : goal.decreases-walking
decreases-walking l = length l.left + length l.right - (l.i + l.j)
