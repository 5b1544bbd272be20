use Rattle.std.proofs.Common.{◌≡◌, ◌&&◌, ℕ, zero, List, Some, true, take, drop, length}
use Rattle.ft_theory.specs.Expressions.{Expression}
use Rattle.ft_theory.specs.Statements.{map_statement}
use Rattle.ft_items.specs.Equal.{fit_all}
use Rattle.ft_items.specs.Store.{Assertion, Declared, each, entry_named, metavariable_named, premises_of, store_of, declared_by}
use Rattle.ft_items.specs.Rows.{statements}
use Rattle.ft_items.specs.Good.{Good, all_theses}
use Rattle.ft_check.specs.Comparing.{all_same, ComparedBelow}
use Rattle.ft_check.proofs.fitting.push_each.Given as goal

abbrev pub invariant-loop-k : goal.invariant-loop-k
invariant-loop-k l = record {
  same : (ds : List (ℕ × Declared)) (given : List Assertion) (j : Expression → Expression) → Good (take l.i l.items.items) → each (metavariable_named (declared_by (take l.i l.items.items))) l.ms ≡ Some ds → each (entry_named (store_of (take l.i l.items.items))) l.ps ≡ Some given → all_theses given ≡ true
      → (all_same l.items.trees j l.initial.list.items && fit_all (map_statement (λ k. j) zero) (premises_of ds) (statements given)) ≡ (all_same l.items.trees j l.list.items && fit_all (map_statement (λ k. j) zero) (premises_of (drop l.k ds)) (statements (drop l.k given)));
  below : ComparedBelow (length l.items.trees) l.initial.list.items → ComparedBelow (length l.items.trees) l.list.items;
}
