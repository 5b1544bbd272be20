use Rattle.std.proofs.Common.{◌≡◌, ◌&&◌, ℕ, List, drop}
use Rattle.ft_theory.specs.Expressions.{Expression}
use Rattle.ft_syntax.specs.Table.{AllBelow}
use Rattle.ft_check.specs.Comparing.{all_same, domains_same, ComparedBelow}
use Rattle.ft_check.proofs.compare.push_domains.Given as goal

abbrev pub invariant-loop-k : goal.invariant-loop-k
invariant-loop-k l = record {
  same : (ts : List Expression) (j : Expression → Expression) → (all_same ts j l.initial.list.items && domains_same ts j l.found l.wanted) ≡ (all_same ts j l.list.items && domains_same ts j (drop l.k l.found) (drop l.k l.wanted));
  below : (n : ℕ) → ComparedBelow n l.initial.list.items → AllBelow n l.found → AllBelow n l.wanted → ComparedBelow n l.list.items;
}
