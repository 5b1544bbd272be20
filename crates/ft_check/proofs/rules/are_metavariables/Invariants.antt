use Rattle.std.proofs.Common.{◌≡◌, take, true}
use Rattle.std.specs.Prelude.{is_some}
use Rattle.std.specs.List.{list_all}
use Rattle.ft_items.specs.Store.{nth, metavariables_in}
use Rattle.ft_check.proofs.rules.are_metavariables.Given as goal

abbrev pub invariant-loop-k : goal.invariant-loop-k
invariant-loop-k l = list_all (λ m. is_some (nth (metavariables_in (take l.i l.items.items)) m)) (take l.k l.ms) ≡ true
