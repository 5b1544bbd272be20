use Rattle.std.proofs.Common.{take}
use Rattle.ft_items.specs.Store.{store_of}
use Rattle.ft_check.proofs.SidesFound.{Found}
use Rattle.ft_check.proofs.metas.all_sides.Given as goal

abbrev pub invariant-loop-k : goal.invariant-loop-k
invariant-loop-k l = Found (store_of (take l.i l.items.items)) l.ps l.at l.items.trees l.k l.list.items
