use Rattle.std.proofs.Common.{◌≡◌, ◌≤◌, List, Some, length, take, drop}
use Rattle.ft_items.specs.Sets.{unions}
use Rattle.ft_items.specs.Store.{Assertion, each, entry_named, store_of}
use Rattle.ft_items.specs.Rows.{sets}
use Rattle.ft_check.proofs.rules_at.union_of.Given as goal

abbrev pub invariant-loop-k : goal.invariant-loop-k
invariant-loop-k l = (l.k ≤ length l.ps) × ((given : List Assertion) → each (entry_named (store_of (take l.i l.items.items))) l.ps ≡ Some given → l.set ≡ unions (sets (drop l.k given)))

abbrev pub decreases-loop-k : goal.decreases-loop-k
decreases-loop-k l = l.k
