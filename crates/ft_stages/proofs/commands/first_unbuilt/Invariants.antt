use Rattle.std.proofs.Common.{◌≡◌, drop, map}
use Rattle.ft_meaning.specs.Trees.{command_of}
use Rattle.ft_meaning.specs.Stages.{first_unbuilt, no_equality}
use Rattle.ft_stages.proofs.commands.first_unbuilt.Given as goal

abbrev pub invariant-loop-c : goal.invariant-loop-c
invariant-loop-c l = first_unbuilt no_equality (map command_of (drop l.c-index l.commands)) ≡ first_unbuilt no_equality (map command_of l.commands)
