use Rattle.std.proofs.Common.{◌≡◌, length}
use Rattle.ft_meaning.specs.Names.{named}
use Rattle.ft_values.specs.Scopes.{names_in, names_of, IsScopeOf, depth}
use Rattle.ft_values.proofs.scopes.Scopes.get.Given as goal

abbrev pub invariant-searching : goal.invariant-searching
invariant-searching l = record {
  within : IsScopeOf (length l.self-inside.bindings.items) l.rest;
  left : named (names_in (names_of l.self-inside.bindings.items) l.rest) l.name ≡ named (names_in l.self l.fn.scope) l.name;
}

abbrev pub decreases-searching : goal.decreases-searching
decreases-searching l = depth l.rest
