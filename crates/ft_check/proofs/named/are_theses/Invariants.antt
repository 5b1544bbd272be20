use Rattle.std.proofs.Common.{◌≡◌, take, drop}
use Rattle.ft_items.specs.Store.{store_of}
use Rattle.ft_check.specs.Kinds.{theses_named}
use Rattle.ft_check.proofs.NamedTheses.{so_far}
use Rattle.ft_check.proofs.named.are_theses.Given as goal

abbrev pub invariant-loop-k : goal.invariant-loop-k
invariant-loop-k l = theses_named (store_of (take l.i l.items.items)) l.ps ≡ so_far l.all (theses_named (store_of (take l.i l.items.items)) (drop l.k l.ps))
