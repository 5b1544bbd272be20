use Rattle.std.proofs.Common.{◌≡◌, ◌++◌, map, take}
use Rattle.ft_items.specs.Store.{declared_by}
use Rattle.ft_assume.specs.Atoms.{atoms_of}
use Rattle.ft_meaning.specs.Texts.{joined, member_text}
use Rattle.ft_print.proofs.sequents.push_context.Given as goal

abbrev pub invariant-loop-i : goal.invariant-loop-i
invariant-loop-i l = l.out ≡ l.fn.out ++ joined (map (member_text (declared_by l.k.items) l.variables) (take l.i (atoms_of l.atoms)))
