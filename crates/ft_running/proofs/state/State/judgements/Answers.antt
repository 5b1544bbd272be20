use Rattle.std.proofs.Common.{◌∙◌, sym, ap, subst, Some, None}
use Rattle.ft_apply.specs.Named.{AreThesesOf}
use Rattle.ft_values.specs.Kept.{judgements_in, if_list, found_before}
use Rattle.ft_values.specs.Rows.{kept_in}
use Rattle.ft_running.specs.Evaluation.{Evaluation, IsValueOf, value_over}
use Rattle.ft_running.specs.Readers.{HasJudgements}
use Rattle.ft_running.proofs.Further.{over_value}
use Rattle.ft_running.proofs.Reading.{list_found, reads_theses, reads_list_of}
use Rattle.ft_running.proofs.state.State.judgements.Goals as goal

pub returns-then-branch-clause-theses : goal.returns-then-branch-clause-theses
returns-then-branch-clause-theses c =
    let e : Evaluation = record { list = c.self.inside.kernel; values = c.self.inside.values; scopes = c.self.inside.scopes; top = c.self.inside.top; units = c.self.inside.units } in
    let k = kept_in e.values c.args.v in
    let within : IsValueOf e c.args.v = subst (λ e. IsValueOf e c.args.v) (sym c.self.view_is) c.requires in
    let js = c.judgements.new.found.items in
    let is = list_found c.in_ok-judgements.field-0 js (judgements_in k) (c.in_ok-judgements.ensures ∙ ap (λ l. found_before l (judgements_in k)) c.new-found.ensures.items) in
    subst (λ (e : Evaluation). AreThesesOf e.list js) c.self.view_is
    (reads_theses e.list k js (over_value e.list e.values c.args.v c.self.invariant.values_over within) (is ∙ ap (λ b. if_list b js) c.if-branch.true))

pub returns-then-branch-clause-means : goal.returns-then-branch-clause-means
returns-then-branch-clause-means c =
    let e : Evaluation = record { list = c.self.inside.kernel; values = c.self.inside.values; scopes = c.self.inside.scopes; top = c.self.inside.top; units = c.self.inside.units } in
    let k = kept_in e.values c.args.v in
    let js = c.judgements.new.found.items in
    let is = list_found c.in_ok-judgements.field-0 js (judgements_in k) (c.in_ok-judgements.ensures ∙ ap (λ l. found_before l (judgements_in k)) c.new-found.ensures.items) in
    subst (λ e. HasJudgements e (value_over e c.args.v) (Some js)) c.self.view_is
    (reads_list_of e.list k (Some js) (is ∙ ap (λ b. if_list b js) c.if-branch.true))

pub returns-clause-means : goal.returns-clause-means
returns-clause-means c =
    let e : Evaluation = record { list = c.self.inside.kernel; values = c.self.inside.values; scopes = c.self.inside.scopes; top = c.self.inside.top; units = c.self.inside.units } in
    let k = kept_in e.values c.args.v in
    let js = c.judgements.new.found.items in
    let is = list_found c.in_ok-judgements.field-0 js (judgements_in k) (c.in_ok-judgements.ensures ∙ ap (λ l. found_before l (judgements_in k)) c.new-found.ensures.items) in
    subst (λ e. HasJudgements e (value_over e c.args.v) None) c.self.view_is
    (reads_list_of e.list k None (is ∙ ap (λ b. if_list b js) c.if-branch.false))
