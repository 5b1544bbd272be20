use Rattle.std.proofs.Common.{rules, ◌≡◌, ◌+◌, ◌∙◌, sym, ap, map, drop, Err}
use Rattle.ft_grammar.specs.declared.syntax.Named.{Named}
use Rattle.ft_meaning.specs.Trees.{judgement, premise}
use Rattle.ft_meaning.specs.Typing.{with_value}
use Rattle.ft_meaning.specs.CommandTyping.{premises_scope}
use Rattle.ft_types.specs.Checking.{scope_of, with_local, last_first}
use Rattle.ft_types.specs.Commands.{name_in}
use Rattle.ft_types.proofs.PremiseSteps.{next_premise, premise_fails}
use Rattle.ft_types.proofs.PremiseLoops.{premise_at, pushed_scope, pushed_keeps, pushed_adds, enters_err}
use Rattle.ft_types.proofs.checker.Checker.premises.Goals as goal

pub returns-in_err-premise-clause-enters : goal.returns-in_err-premise-clause-enters
returns-in_err-premise-clause-enters c =
    let e = c.in_err-premise.field-0.0 in
    let is : c.from_residual.result ≡ Err e = search rules in
    enters_err _ _ e _ _ is (λ told. sym c.loop-p.invariant.left
    ∙ premise_at c.args.ps.now c.loop-p.p-index c.p-item.result _ _ c.p-item.is c.loop-p-test.true
    ∙ premise_fails c.p-item.result _ _ _ e c.in_err-premise.ensures.passes told)

pub loop-p-preserved : goal.loop-p-preserved
loop-p-preserved c =
    let v = c.args.self.now in
    let w = c.loop-p.self in
    let x = c.premise.new.self in
    let y = c.push.new.self in
    let p = c.p-item.result in
    let n = (name_in p.body).name in
    let rest = map premise (drop (c.loop-p.p-index + 1) c.args.ps.now) in
    let named : c.name_of.result.now ≡ name_in p.body = search rules in
    let pushed : y ≡ with_local n judgement x = c.in_ok-push.ensures.ok ∙ ap (λ (m : Named). with_local m.name judgement x) named in
    record {
      kept = pushed_keeps n judgement v w x y c.loop-p.invariant.kept c.premise.ensures.keeps pushed;
      added = pushed_adds n judgement v w x y c.loop-p.invariant.added c.in_ok-premise.ensures.passes.1 pushed;
      left = sym (sym c.loop-p.invariant.left
          ∙ premise_at c.args.ps.now c.loop-p.p-index p _ (scope_of w) c.p-item.is c.loop-p-test.true
          ∙ next_premise p _ _ (scope_of w) c.in_ok-premise.ensures.passes.0
          ∙ ap (λ ns. premises_scope rest ns (with_value n judgement (scope_of w))) (sym c.in_ok-premise.ensures.seen)
          ∙ ap (premises_scope rest (last_first c.premise.new.seen.items)) (sym (pushed_scope n w x y pushed c.premise.ensures.keeps.top c.in_ok-premise.ensures.passes.1)));
    }
