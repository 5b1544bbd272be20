use Rattle.std.proofs.Common.{◌+◌, ◌∙◌, sym, ap, map, drop}
use Rattle.ft_equality.specs.Results.{◌>>◌}
use Rattle.ft_meaning.specs.Trees.{judgement, binder}
use Rattle.ft_meaning.specs.Typing.{with_value}
use Rattle.ft_meaning.specs.CommandTyping.{binders_scope}
use Rattle.ft_types.specs.Checking.{scope_of}
use Rattle.ft_types.proofs.PremiseLoops.{binder_at, pushed_scope, pushed_keeps, pushed_adds}
use Rattle.ft_types.proofs.checker.Checker.binders.Goals as goal

pub loop-b-preserved : goal.loop-b-preserved
loop-b-preserved c =
    let v = c.args.self.now in
    let w = c.loop-b.self in
    let x = c.judgement.new.self in
    let y = c.push.new.self in
    let b = c.b-item.result in
    let rest = map binder (drop (c.loop-b.b-index + 1) c.args.bs.now) in
    record {
      kept = pushed_keeps b.name.name judgement v w x y c.loop-b.invariant.kept c.judgement.ensures.keeps c.in_ok-push.ensures.ok;
      added = pushed_adds b.name.name judgement v w x y c.loop-b.invariant.added c.in_ok-judgement.ensures.finds.1 c.in_ok-push.ensures.ok;
      left = sym (sym c.loop-b.invariant.left
          ∙ binder_at c.args.bs.now c.loop-b.b-index b (scope_of w) c.b-item.is c.loop-b-test.true
          ∙ ap (λ r. r >> binders_scope rest (with_value b.name.name judgement (scope_of w))) c.in_ok-judgement.ensures.finds.0
          ∙ ap (binders_scope rest) (sym (pushed_scope b.name.name w x y c.in_ok-push.ensures.ok c.judgement.ensures.keeps.top c.in_ok-judgement.ensures.finds.1)));
    }
