use Rattle.std.proofs.Common.{length, ◌-◌, ◌≡◌, ◌≤◌, ◌++◌, ◌+◌, drop}
use Rattle.ft_items.specs.Sets.{union as union_of}
use Rattle.ft_assume.specs.Atoms.{atoms_of}
use Rattle.ft_assume.proofs.assume.merge.Given as goal

abbrev pub invariant-merging : goal.invariant-merging
invariant-merging l = record {
  left : l.i ≤ length l.left;
  right : l.j ≤ length l.right;
  merged : atoms_of l.out.items ++ union_of (atoms_of (drop l.i l.left)) (atoms_of (drop l.j l.right)) ≡ union_of (atoms_of l.left) (atoms_of l.right);
}

abbrev pub decreases-merging : goal.decreases-merging
decreases-merging l = length l.left + length l.right - (l.i + l.j)
