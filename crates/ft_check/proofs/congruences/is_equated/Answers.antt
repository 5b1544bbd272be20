use Rattle.std.proofs.Common.{sym, ap₂, ◌∙◌}
use Rattle.std.proofs.lemmas.Result.{IfOk-weaker}
use Rattle.ft_theory.specs.Expressions.{instantiate, symbol}
use Rattle.ft_theory.specs.Statements.{equate_goal, map_claim}
use Rattle.ft_items.specs.Equal.{equal_claims}
use Rattle.ft_syntax.specs.Instances.{instance_in}
use Rattle.ft_syntax.specs.Table.{arguments_in}
use Rattle.ft_judge.specs.Meaning.{claim_in, goal_in}
use Rattle.ft_check.proofs.congruences.is_equated.Goals as goal

pub returns-in-EqTy-Ty : goal.returns-in-EqTy-Ty
returns-in-EqTy-Ty c = λ o.
    let T = c.args.terms.now in
    let L = c.args.sides.now.left in
    let R = c.args.sides.now.right in
    IfOk-weaker c.are_applied.result _ _
    (λ b h. h ∙ ap₂ (λ f g. equal_claims (claim_in T f) (equate_goal (map_claim (instantiate (instance_in L.terms L.instance.pairs)) (goal_in T g)) (symbol c.args.rule.now.symbol (arguments_in L.terms L.arguments.items)) (symbol c.args.rule.now.symbol (arguments_in R.terms R.arguments.items))))
    (sym c.in-EqTy-Ty.is-0) (sym c.in-EqTy-Ty.is-1))
    c.are_applied.ensures

pub returns-in-EqTm-Tm : goal.returns-in-EqTm-Tm
returns-in-EqTm-Tm c = λ o.
    let T = c.args.terms.now in
    let L = c.args.sides.now.left in
    let R = c.args.sides.now.right in
    IfOk-weaker c.are_typed.result _ _
    (λ b h. h ∙ ap₂ (λ f g. equal_claims (claim_in T f) (equate_goal (map_claim (instantiate (instance_in L.terms L.instance.pairs)) (goal_in T g)) (symbol c.args.rule.now.symbol (arguments_in L.terms L.arguments.items)) (symbol c.args.rule.now.symbol (arguments_in R.terms R.arguments.items))))
    (sym c.in-EqTm-Tm.is-0) (sym c.in-EqTm-Tm.is-1))
    c.are_typed.ensures
