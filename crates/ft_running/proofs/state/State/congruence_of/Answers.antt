use Rattle.ft_running.proofs.Called.{leaves_further}
use Rattle.std.proofs.Common.{sym, subst, ℕ}
use Rattle.ft_theory.specs.Rules.{Rule}
use Rattle.ft_reference.specs.Nucleus as reference
use Rattle.ft_meaning.specs.Forms.{judged}
use Rattle.ft_calling.specs.Calling.{rule_at}
use Rattle.ft_running.specs.Asked.{IsRuleOf, rule_in, judgements_of}
use Rattle.ft_running.specs.Evaluation.{Evaluation, run_of, GoesFurther}
use Rattle.ft_running.specs.Telling.{TellsValue}
use Rattle.ft_running.proofs.Called.{leaves_evaluation, rule_is_in}
use Rattle.ft_running.proofs.state.State.congruence_of.Goals as goal

pub invariant_of-self : goal.invariant_of-self
invariant_of-self c = leaves_evaluation (record { list = c.self.inside.kernel; values = c.self.inside.values; scopes = c.self.inside.scopes; top = c.self.inside.top; units = c.self.inside.units }) c.congruence-answer.new.k c.self.invariant c.congruence-answer.ensures.told.leaves

pub returns-clause-tells : goal.returns-clause-tells
returns-clause-tells c =
    let V : Evaluation = (record { list = c.self.inside.kernel; values = c.self.inside.values; scopes = c.self.inside.scopes; top = c.self.inside.top; units = c.self.inside.units }) in
    let rule = subst (λ (e : Evaluation). IsRuleOf e c.args.rule) (sym c.self.view_is) c.requires.rule in
    subst (λ (e : Evaluation). TellsValue ((λ (R : ℕ × Rule). judged c.args.at (λ W. reference.congruence W R (judgements_of e c.args.js.now) (judgements_of e c.args.es.now)) (run_of e)) (rule_in e c.args.rule)) c.concluded.result c.concluded.new.self) c.self.view_is
    (subst (λ (R : ℕ × Rule). TellsValue ((λ (R : ℕ × Rule). judged c.args.at (λ W. reference.congruence W R (judgements_of V c.args.js.now) (judgements_of V c.args.es.now)) (run_of V)) R) c.concluded.result c.concluded.new.self)
    (sym (rule_is_in V c.args.rule c.terms-terms.ensures.good rule.0).1)
    (c.concluded.ensures.tells ((λ (R : ℕ × Rule). judged c.args.at (λ W. reference.congruence W R (judgements_of V c.args.js.now) (judgements_of V c.args.es.now)) (run_of V)) (rule_at c.self.inside.kernel c.args.rule)) (c.congruence-answer.ensures.told.tells c.self.inside.units)))

pub returns-clause-further : goal.returns-clause-further
returns-clause-further c =
    subst (λ (e : Evaluation). GoesFurther e c.concluded.new.self) c.self.view_is
    (leaves_further (record { list = c.self.inside.kernel; values = c.self.inside.values; scopes = c.self.inside.scopes; top = c.self.inside.top; units = c.self.inside.units }) c.concluded.new.self
    c.congruence-answer.new.k c.congruence-answer.ensures.told.leaves c.concluded.ensures.further)
