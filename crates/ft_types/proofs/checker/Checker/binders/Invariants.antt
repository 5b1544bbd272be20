use Rattle.std.proofs.Common.{◌≡◌, drop, map}
use Rattle.ft_meaning.specs.Trees.{binder}
use Rattle.ft_meaning.specs.CommandTyping.{binders_scope}
use Rattle.ft_types.specs.Checking.{scope_of, Keeps}
use Rattle.ft_types.specs.Commands.{Adds}
use Rattle.ft_types.proofs.checker.Checker.binders.Given as goal

abbrev pub invariant-loop-b : goal.invariant-loop-b
invariant-loop-b l = record {
  kept : Keeps l.fn.self l.self;
  added : Adds l.fn.self l.self;
  left : binders_scope (map binder (drop l.b-index l.bs)) (scope_of l.self) ≡ binders_scope (map binder l.bs) (scope_of l.fn.self);
}
