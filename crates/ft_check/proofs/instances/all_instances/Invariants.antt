use Rattle.std.proofs.Common.{◌≡◌, drop}
use Rattle.ft_theory.specs.Expressions.{instantiate}
use Rattle.ft_syntax.specs.Instances.{instance_in}
use Rattle.ft_syntax.specs.Table.{Extends}
use Rattle.ft_check.specs.Comparing.{all_same}
use Rattle.ft_check.proofs.instances.all_instances.Given as goal

abbrev pub invariant-loop-k : goal.invariant-loop-k
invariant-loop-k l = record {
  goes_on : Extends l.fn.put l.put;
  same : all_same l.terms (instantiate (instance_in l.fn.put l.instance.pairs)) l.list ≡ all_same l.terms (instantiate (instance_in l.fn.put l.instance.pairs)) (drop l.k l.list);
}
