use Rattle.std.proofs.Common.{◌≡◌, ◌++◌, map, take, codes}
use Rattle.ft_items.specs.Texts.{joined, atom_text, EachAtomFits}
use Rattle.ft_export.proofs.sets.push_set.Given as goal

abbrev pub invariant-loop-i : goal.invariant-loop-i
invariant-loop-i l = record {
  out : l.out ≡ (l.fn.out ++ codes "[") ++ joined (codes ",") (map atom_text (take l.i l.set));
  fits : EachAtomFits (take l.i l.set);
}
