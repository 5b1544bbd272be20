use Rattle.std.proofs.Common.{◌≡◌, IfOk, Some, ℕ, sym, subst}
use Rattle.std.specs.Prelude.{option_map}
use Rattle.ft_theory.specs.Expressions.{Arguments, symbol}
use Rattle.ft_theory.specs.Rules.{Rule, rule_at}
use Rattle.ft_items.specs.Rows.{natural_of_rule}
use Rattle.ft_items.specs.Store.{Declarations}
use Rattle.ft_syntax.specs.Table.{tree}
use Rattle.ft_placing.specs.Applied.{is_left}
use Rattle.ft_check.specs.Applying.{IsRule}
use Rattle.ft_check.specs.Earlier.{declared_before}
use Rattle.ft_check.proofs.Telling.{found_there}
use Rattle.ft_check.proofs.naturals.is_natural_of_symbol.Goals as goal

pub returns-in-Some : goal.returns-in-Some
returns-in-Some c = λ a g e.
    let T = c.args.items.now.trees in
    let D = declared_before c.args.i c.args.items.now.items in
    let k = found_there c.args.r (rule_at D.rules c.args.r) c.in-Some.rule (λ R x. IsRule T D x R) (λ R h. c.in-Some.ensures.is R g h) (λ h. c.in-Some.ensures.none g h) in
    subst (λ o. IfOk c.is_type_of_symbol.result (λ x. x ≡ option_map (λ N. is_left T N c.args.left) (natural_of_rule o a))) (sym k.1)
    (subst (λ ts. (W : Declarations) (R : ℕ × Rule) (s : ℕ) (a : Arguments) → IsRule ts W c.in-Some.rule R → tree ts c.args.e ≡ symbol s a → IfOk c.is_type_of_symbol.result (λ o. o ≡ option_map (λ N. is_left ts N c.args.left) (natural_of_rule (Some R.1) a)))
    c.terms.ensures c.is_type_of_symbol.ensures D (c.args.r, k.0) c.args.r a k.2 e)
