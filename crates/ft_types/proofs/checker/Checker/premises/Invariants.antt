use Rattle.std.proofs.Common.{◌≡◌, [], drop, map}
use Rattle.ft_meaning.specs.Trees.{premise}
use Rattle.ft_meaning.specs.CommandTyping.{premises_scope}
use Rattle.ft_types.specs.Checking.{scope_of, last_first, Keeps}
use Rattle.ft_types.specs.Commands.{Adds}
use Rattle.ft_types.proofs.checker.Checker.premises.Given as goal

abbrev pub invariant-loop-p : goal.invariant-loop-p
invariant-loop-p l = record {
  kept : Keeps l.fn.self l.self;
  added : Adds l.fn.self l.self;
  left : premises_scope (map premise (drop l.p-index l.ps)) (last_first l.seen.items) (scope_of l.self) ≡ premises_scope (map premise l.ps) [] (scope_of l.fn.self);
}
