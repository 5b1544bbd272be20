use Rattle.std.proofs.Common.{◌≡◌, subst, Some, None}
use Rattle.std.specs.Prelude.{IfSome, IfNone}
use Rattle.ft_items.specs.Store.{declared_by}
use Rattle.ft_meaning.specs.Names.{rule_of_name}
use Rattle.ft_running.specs.Asked.{IsRuleOf, rule_in}
use Rattle.ft_running.specs.Evaluation.{Evaluation}
use Rattle.ft_running.proofs.Called.{rule_some, rule_none, rules_are}
use Rattle.ft_running.proofs.state.State.rule.Goals as goal

pub returns-clause-rule : goal.returns-clause-rule
returns-clause-rule c =
    subst (λ (e : Evaluation). IfSome c.rule_of_name.result (λ r. IsRuleOf e r)) c.self.view_is
    (rules_are (record { list = c.self.inside.kernel; values = c.self.inside.values; scopes = c.self.inside.scopes; top = c.self.inside.top; units = c.self.inside.units }) c.rule_of_name.result c.terms-terms.ensures.good c.rule_of_name.ensures.rule)

pub returns-clause-some : goal.returns-clause-some
returns-clause-some c =
    subst (λ (e : Evaluation). IfSome c.rule_of_name.result (λ r. rule_of_name (declared_by e.list.items) c.args.name.now ≡ Some (rule_in e r))) c.self.view_is
    (rule_some (record { list = c.self.inside.kernel; values = c.self.inside.values; scopes = c.self.inside.scopes; top = c.self.inside.top; units = c.self.inside.units }) c.args.name.now c.rule_of_name.result c.terms-terms.ensures.good c.rule_of_name.ensures.told c.rule_of_name.ensures.rule)

pub returns-clause-none : goal.returns-clause-none
returns-clause-none c =
    subst (λ (e : Evaluation). IfNone c.rule_of_name.result (rule_of_name (declared_by e.list.items) c.args.name.now ≡ None)) c.self.view_is
    (rule_none (record { list = c.self.inside.kernel; values = c.self.inside.values; scopes = c.self.inside.scopes; top = c.self.inside.top; units = c.self.inside.units }) c.args.name.now c.rule_of_name.result c.rule_of_name.ensures.told)
