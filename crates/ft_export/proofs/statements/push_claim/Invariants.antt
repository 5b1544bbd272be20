use Rattle.std.proofs.Common.{◌≡◌, ◌++◌, take}
use Rattle.ft_export.specs.Statements.{lettered_text, EachFits}
use Rattle.ft_export.proofs.statements.push_claim.Given as goal

abbrev pub invariant-loop-e : goal.invariant-loop-e
invariant-loop-e l = record {
  out : l.out ≡ l.fn.out ++ lettered_text l.terms l.letter (take l.e-index l.parts);
  fits : EachFits l.terms (take l.e-index l.parts);
}
