use Rattle.std.proofs.Common.{◌≡◌, ◌++◌, take}
use Rattle.ft_items.specs.Store.{declared_by}
use Rattle.ft_print.specs.Domains.{domains_text}
use Rattle.ft_print.proofs.statements.push_domains.Given as goal

abbrev pub invariant-loop-i : goal.invariant-loop-i
invariant-loop-i l = l.out ≡ l.fn.out ++ domains_text (declared_by l.k.items) l.variables l.k.trees 0 (take l.i l.domains)
