use Rattle.std.proofs.Common.{◌≡◌, ◌++◌, take}
use Rattle.ft_export.specs.Statements.{domains_text, EachFits}
use Rattle.ft_export.proofs.statements.push_domains.Given as goal

abbrev pub invariant-loop-e : goal.invariant-loop-e
invariant-loop-e l = record {
  out : l.out ≡ l.fn.out ++ domains_text l.terms (take l.e-index l.domains);
  fits : EachFits l.terms (take l.e-index l.domains);
}
