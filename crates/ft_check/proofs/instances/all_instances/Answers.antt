use Rattle.std.proofs.Common.{rules, ◌≡◌, ◌∙◌, ap, true, false}
use Rattle.ft_theory.specs.Expressions.{instantiate}
use Rattle.ft_syntax.specs.Instances.{instance_in}
use Rattle.ft_check.specs.Comparing.{same_at}
use Rattle.ft_check.proofs.HeadsPut.{all_next, all_not}
use Rattle.ft_syntax.specs.Laws.{extends_trans, instance_extends}
use Rattle.ft_check.proofs.instances.all_instances.Goals as goal

pub returns-then-not-branch-clause-are : goal.returns-then-not-branch-clause-are
returns-then-not-branch-clause-are c =
    let other : c.in_ok-is_instance.field-0 ≡ false = search rules in
    all_not c.args.terms.now (instantiate (instance_in c.args.put.now c.args.instance.now.pairs)) c.args.list.now c.loop-k.k _ c.index-list-k.result _ c.in_ok-is_instance.field-0
    c.loop-k.invariant.same c.loop-k-test.true c.index-list-k.is
    (c.in_ok-is_instance.ensures.is ∙ ap (λ i. same_at c.args.terms.now (instantiate i) c.index-list-k.result) (instance_extends c.args.put.now c.loop-k.put c.args.instance.now.pairs c.loop-k.invariant.goes_on c.requires.pairs)) other

pub loop-k-preserved : goal.loop-k-preserved
loop-k-preserved c =
    let same : c.in_ok-is_instance.field-0 ≡ true = search rules in
    record {
      goes_on = extends_trans c.args.put.now c.loop-k.put c.is_instance.new.put c.loop-k.invariant.goes_on c.in_ok-is_instance.ensures.goes_on;
      same = all_next c.args.terms.now (instantiate (instance_in c.args.put.now c.args.instance.now.pairs)) c.args.list.now c.loop-k.k _ c.index-list-k.result _ c.in_ok-is_instance.field-0
          c.loop-k.invariant.same c.loop-k-test.true c.index-list-k.is
          (c.in_ok-is_instance.ensures.is ∙ ap (λ i. same_at c.args.terms.now (instantiate i) c.index-list-k.result) (instance_extends c.args.put.now c.loop-k.put c.args.instance.now.pairs c.loop-k.invariant.goes_on c.requires.pairs)) same;
    }
