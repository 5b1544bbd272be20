use Rattle.std.proofs.Common.{◌≡◌, drop, map, length}
use Rattle.ft_meaning.specs.Trees.{pattern, patterns}
use Rattle.ft_meaning.specs.Typing.{all_bindings}
use Rattle.ft_types.specs.Names.{listed}
use Rattle.ft_types.specs.Checking.{scope_of, bound, ValuesBelow}
use Rattle.ft_types.proofs.checker.Checker.+binding.Given as goal

abbrev pub invariant-parts_bindings-loop-p : goal.invariant-parts_bindings-loop-p
invariant-parts_bindings-loop-p l = record {
  below : ValuesBelow (length l.self.types) (listed l.found.items);
  left : all_bindings (patterns (map pattern (drop l.p-index l.ps))) (scope_of l.self) (bound l.self.types l.found.items)
      ≡ all_bindings (patterns (map pattern l.ps)) (scope_of l.self) (bound l.self.types l.fn.found.items);
}
