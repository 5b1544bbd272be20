use Rattle.std.proofs.Common.{◌≡◌, [], drop, take}
use Rattle.ft_placing.specs.Sides.{types_fit}
use Rattle.ft_placing.proofs.sides.do_types_fit.Given as goal

abbrev pub invariant-loop-k : goal.invariant-loop-k
invariant-loop-k l = types_fit l.terms [] l.domains l.list ≡ types_fit l.terms (take l.k l.put) (drop l.k l.domains) (drop l.k l.list)
