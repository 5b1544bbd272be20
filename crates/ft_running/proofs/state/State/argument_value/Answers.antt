use Rattle.std.proofs.Common.{◌≡◌, ◌∙◌, sym, ap, subst, ℕ}
use Rattle.std.specs.Prelude.{Ok, Result}
use Rattle.ft_items.specs.Item.{by_arg}
use Rattle.ft_kernel.specs.State.{IsThesisOf}
use Rattle.ft_telling.specs.Telling.{TellsStatement, HaltsSo, state_of}
use Rattle.ft_telling.specs.declared.halt.Halt.{Halt}
use Rattle.ft_values.specs.Kept.{stated_at}
use Rattle.ft_running.specs.Evaluation.{Evaluation, GoesFurther, run_of}
use Rattle.ft_running.specs.Matching.{argument_of}
use Rattle.ft_running.proofs.Further.{call_evaluation, call_goes, further_both}
use Rattle.ft_running.proofs.Applied.{argument_answered}
use Rattle.ft_running.proofs.state.State.argument_value.Goals as goal

pub invariant_of-self : goal.invariant_of-self
invariant_of-self c =
    let e : Evaluation = record { list = c.self.inside.kernel; values = c.self.inside.values; scopes = c.self.inside.scopes; top = c.self.inside.top; units = c.self.inside.units } in
    call_evaluation e (by_arg c.args.i c.args.j) c.argument-answer.result c.argument-answer.new.k c.self.invariant c.argument-answer.ensures.answers

pub invariant_of-self-2 : goal.invariant_of-self-2
invariant_of-self-2 c =
    let e : Evaluation = record { list = c.self.inside.kernel; values = c.self.inside.values; scopes = c.self.inside.scopes; top = c.self.inside.top; units = c.self.inside.units } in
    call_evaluation e (by_arg c.args.i c.args.j) c.argument-answer.result c.argument-answer.new.k c.self.invariant c.argument-answer.ensures.answers

pub returns-in-Err-clause-tells : goal.returns-in-Err-clause-tells
returns-in-Err-clause-tells c =
    let e : Evaluation = record { list = c.self.inside.kernel; values = c.self.inside.values; scopes = c.self.inside.scopes; top = c.self.inside.top; units = c.self.inside.units } in
    let t = c.argument-answer.new.k in
    let is : IsThesisOf e.list c.args.j = subst (λ (e : Evaluation). IsThesisOf e.list c.args.j) (sym c.self.view_is) c.requires in
    subst (λ (f : Evaluation). HaltsSo (argument_of c.args.at c.args.i (stated_at f.list c.args.j) (run_of f)) c.in-Err.halt t e.units) c.self.view_is
    (subst (λ (r : Result ℕ Halt). TellsStatement (argument_of c.args.at c.args.i (stated_at e.list c.args.j) (run_of e)) r t e.units) (sym c.halted.ensures ∙ c.in-Err.is)
    (argument_answered e.list t e.units c.args.at c.args.i c.args.j c.argument-answer.result is c.argument-answer.ensures.answers))

pub returns-clause-tells : goal.returns-clause-tells
returns-clause-tells c =
    let e : Evaluation = record { list = c.self.inside.kernel; values = c.self.inside.values; scopes = c.self.inside.scopes; top = c.self.inside.top; units = c.self.inside.units } in
    let t = c.argument-answer.new.k in
    let a = stated_at t c.in-Ok.argument in
    let is : IsThesisOf e.list c.args.j = subst (λ (e : Evaluation). IsThesisOf e.list c.args.j) (sym c.self.view_is) c.requires in
    let told : argument_of c.args.at c.args.i (stated_at e.list c.args.j) (run_of e) ≡ (Ok a, state_of t e.units) =
    subst (λ (r : Result ℕ Halt). TellsStatement (argument_of c.args.at c.args.i (stated_at e.list c.args.j) (run_of e)) r t e.units) (sym c.halted.ensures ∙ c.in-Ok.is)
    (argument_answered e.list t e.units c.args.at c.args.i c.args.j c.argument-answer.result is c.argument-answer.ensures.answers) in (
      a,
      sym (ap (λ (f : Evaluation). argument_of c.args.at c.args.i (stated_at f.list c.args.j) (run_of f)) c.self.view_is)
          ∙ told ∙ sym (ap (λ (f : Evaluation). (Ok a, run_of f)) c.in_ok-value.ensures.adds),
      c.in_ok-value.ensures.means,
      c.in_ok-value.ensures.value,
    )

pub returns-in_err-value-clause-further : goal.returns-in_err-value-clause-further
returns-in_err-value-clause-further c =
    let e : Evaluation = (record { list = c.self.inside.kernel; values = c.self.inside.values; scopes = c.self.inside.scopes; top = c.self.inside.top; units = c.self.inside.units }) in
    subst (λ (e : Evaluation). GoesFurther e c.keep_judgement.new.self) c.self.view_is
    (further_both e (record e { list = c.argument-answer.new.k }) c.keep_judgement.new.self
    (call_goes e (by_arg c.args.i c.args.j) c.argument-answer.result c.argument-answer.new.k c.argument-answer.ensures.answers) c.keep_judgement.ensures.further)

pub returns-clause-further : goal.returns-clause-further
returns-clause-further c =
    let e : Evaluation = (record { list = c.self.inside.kernel; values = c.self.inside.values; scopes = c.self.inside.scopes; top = c.self.inside.top; units = c.self.inside.units }) in
    subst (λ (e : Evaluation). GoesFurther e c.keep_judgement.new.self) c.self.view_is
    (further_both e (record e { list = c.argument-answer.new.k }) c.keep_judgement.new.self
    (call_goes e (by_arg c.args.i c.args.j) c.argument-answer.result c.argument-answer.new.k c.argument-answer.ensures.answers) c.keep_judgement.ensures.further)
