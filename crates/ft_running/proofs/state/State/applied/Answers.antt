use Rattle.std.proofs.Common.{◌≡◌, ◌∙◌, sym, subst, Some}
use Rattle.std.specs.Prelude.{Ok, Err}
use Rattle.ft_running.specs.Evaluation.{Evaluation, run_of, value_over}
use Rattle.ft_running.specs.Matching.{symbol_applied}
use Rattle.ft_running.specs.Readers.{stated_in, judgement_in}
use Rattle.ft_running.specs.Telling.{TellsApplied}
use Rattle.ft_running.proofs.Applied.{applied_told, unnamed_told}
use Rattle.ft_running.proofs.state.State.applied.Goals as goal

pub returns-in-Some-rule_named-clause-tells : goal.returns-in-Some-rule_named-clause-tells
returns-in-Some-rule_named-clause-tells c =
    let e : Evaluation = record { list = c.self.inside.kernel; values = c.self.inside.values; scopes = c.self.inside.scopes; top = c.self.inside.top; units = c.self.inside.units } in
    subst (λ e. TellsApplied (symbol_applied c.args.name.now (value_over e c.args.v) (run_of e)) (Ok c.then_some.result) e) c.self.view_is
    (applied_told e c.args.name.now (value_over e c.args.v) c.in-Some.j c.in-Some-rule_named.rule c.is_application.result c.then_some.result
    c.len-items.ensures.good (sym c.in-Some-rule_named.is ∙ c.rule_named.ensures.first)
    (subst (λ e. stated_in e (Some c.in-Some.j) ≡ judgement_in (value_over e c.args.v)) (sym c.self.view_is) c.in-Some.ensures.means)
    c.is_application.ensures c.then_some.ensures)

pub returns-in-None-rule_named-clause-tells : goal.returns-in-None-rule_named-clause-tells
returns-in-None-rule_named-clause-tells c =
    let e : Evaluation = record { list = c.self.inside.kernel; values = c.self.inside.values; scopes = c.self.inside.scopes; top = c.self.inside.top; units = c.self.inside.units } in
    subst (λ e. TellsApplied (symbol_applied c.args.name.now (value_over e c.args.v) (run_of e)) (Err c.stuck-in-None-rule_named.result) e) c.self.view_is
    (unnamed_told e c.args.name.now (value_over e c.args.v) c.args.at c.stuck-in-None-rule_named.result
    c.len-items.ensures.good (sym c.in-None-rule_named.is ∙ c.rule_named.ensures.first) c.stuck-in-None-rule_named.ensures)
