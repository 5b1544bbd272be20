use Rattle.ft_syntax.specs.Arguments.{arguments_of}
use Rattle.ft_syntax.specs.Table.{tree}
use Rattle.ft_parts.proofs.Pairing.{Pairing}
use Rattle.ft_parts.proofs.symbols.instance.Given as goal

abbrev pub invariant-loop-i : goal.invariant-loop-i
invariant-loop-i l = Pairing l.k.trees l.premises (arguments_of (tree l.k.trees l.e)) l.i l.pairs
