use Rattle.std.proofs.Common.{◌≡◌, ◌++◌, length}
use Rattle.ft_meaning.specs.Faults.{type_text}
use Rattle.ft_types.specs.Types.{stands_for}
use Rattle.ft_print.specs.Pieces.{text_left, AllWithin, work_left}
use Rattle.ft_print.proofs.types.push_type.Given as goal

abbrev pub invariant-writing : goal.invariant-writing
invariant-writing l = record {
  within : AllWithin (length l.ty.types) l.left.items;
  same : l.out ++ text_left l.ty.types l.left.items ≡ l.fn.out ++ type_text (stands_for l.ty);
}

abbrev pub decreases-writing : goal.decreases-writing
decreases-writing l = work_left l.ty.types l.left.items
