use Rattle.std.proofs.Common.{◌≡◌, drop}
use Rattle.ft_steps.specs.Moving.{domains_moved}
use Rattle.ft_steps.proofs.moving.are_domains_moved.Given as goal

abbrev pub invariant-loop-k : goal.invariant-loop-k
invariant-loop-k l = domains_moved l.terms l.work 0 l.xs l.ys ≡ domains_moved l.terms l.work l.k (drop l.k l.xs) (drop l.k l.ys)
