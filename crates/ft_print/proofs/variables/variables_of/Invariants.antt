use Rattle.std.proofs.Common.{◌≡◌, take}
use Rattle.ft_assume.specs.Atoms.{atoms_of}
use Rattle.ft_items.specs.Sets.{Ascending}
use Rattle.ft_meaning.specs.Texts.{variables}
use Rattle.ft_print.proofs.variables.variables_of.Given as goal

abbrev pub invariant-loop-atom : goal.invariant-loop-atom
invariant-loop-atom l = record {
  atoms : atoms_of l.atom-items ≡ l.fn.set;
  order : Ascending l.fn.set;
  found : l.found.items ≡ variables (atoms_of (take l.atom-index l.atom-items));
}
