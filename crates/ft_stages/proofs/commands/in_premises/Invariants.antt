use Rattle.std.proofs.Common.{◌≡◌, drop, map}
use Rattle.std.specs.Prelude.{flat_map}
use Rattle.ft_meaning.specs.Trees.{premise}
use Rattle.ft_stages.specs.First.{first, premise_parts}
use Rattle.ft_stages.proofs.commands.in_premises.Given as goal

abbrev pub invariant-loop-p : goal.invariant-loop-p
invariant-loop-p l = first (flat_map premise_parts (map premise (drop l.p-index l.ps))) ≡ first (flat_map premise_parts (map premise l.ps))
