use Rattle.std.proofs.Common.{◌≡◌, IfOk, sym, subst}
use Rattle.std.specs.Prelude.{option_map}
use Rattle.ft_theory.specs.Rules.{rule_at}
use Rattle.ft_items.specs.Equal.{equal_statements}
use Rattle.ft_items.specs.Rows.{rule_arguments}
use Rattle.ft_items.specs.Store.{nth}
use Rattle.ft_check.specs.Applying.{IsRule}
use Rattle.ft_check.specs.Earlier.{declared_before}
use Rattle.ft_check.specs.Entries.{entry_in}
use Rattle.ft_check.proofs.Telling.{found_there}
use Rattle.ft_check.proofs.arguments.is_argument_of_rule.Goals as goal

pub returns-in-Some : goal.returns-in-Some
returns-in-Some c = λ a g e t.
    let T = c.args.items.now.trees in
    let D = declared_before c.args.i c.args.items.now.items in
    let k = found_there c.args.r (rule_at D.rules c.args.r) c.in-Some.rule (λ R x. IsRule T D x R) (λ R h. c.in-Some.ensures.is R g h) (λ h. c.in-Some.ensures.none g h) in
    subst (λ o. IfOk c.is_argument_of_symbol.result (λ x. x ≡ option_map (λ z. equal_statements z (entry_in T c.args.found).statement) (nth (rule_arguments o a) c.args.k))) (sym k.1)
    (c.is_argument_of_symbol.ensures (c.args.r, k.0) c.args.r a g k.2 e t)
