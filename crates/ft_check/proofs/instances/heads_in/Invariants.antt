use Rattle.std.proofs.Common.{take}
use Rattle.ft_items.specs.Store.{store_of}
use Rattle.ft_check.proofs.HeadsPut.{HeadsSoFar}
use Rattle.ft_check.proofs.instances.heads_in.Given as goal

abbrev pub invariant-loop-k : goal.invariant-loop-k
invariant-loop-k l = HeadsSoFar (store_of (take l.i l.items.items)) l.ps l.k l.terms l.list.items
