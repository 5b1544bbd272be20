use Rattle.std.proofs.Common.{◌≡◌, ◌∙◌, sym, subst, length, Some}
use Rattle.std.specs.Prelude.{IfSome}
use Rattle.ft_meaning.specs.Names.{named}
use Rattle.ft_values.specs.Scopes.{names_in}
use Rattle.ft_running.specs.Evaluation.{Evaluation, IsValueOf, IsScopeIn, names_over, environment_of}
use Rattle.ft_running.specs.Readers as readers
use Rattle.ft_running.proofs.Further.{all_names_below}
use Rattle.ft_running.proofs.Reading.{named_first, named_second, found_below, found_means}
use Rattle.ft_running.proofs.state.State.value.Goals as goal

pub returns-in-Some-clause-value : goal.returns-in-Some-clause-value
returns-in-Some-clause-value c =
    let e : Evaluation = record { list = c.self.inside.kernel; values = c.self.inside.values; scopes = c.self.inside.scopes; top = c.self.inside.top; units = c.self.inside.units } in
    let within : IsScopeIn e c.args.scope = subst (λ e. IsScopeIn e c.args.scope) (sym c.self.view_is) c.requires in
    let found = named_first (names_in e.scopes c.args.scope) e.top c.args.name.now c.in-Some.value (sym c.get.ensures ∙ c.in-Some.is) in
    subst (λ e. IsValueOf e c.in-Some.value) c.self.view_is
    (found_below (length e.values) (names_over e c.args.scope) c.args.name.now (Some c.in-Some.value) (all_names_below e c.args.scope c.self.invariant within) (sym found))

pub returns-in-Some-clause-means : goal.returns-in-Some-clause-means
returns-in-Some-clause-means c =
    let e : Evaluation = record { list = c.self.inside.kernel; values = c.self.inside.values; scopes = c.self.inside.scopes; top = c.self.inside.top; units = c.self.inside.units } in
    let found = named_first (names_in e.scopes c.args.scope) e.top c.args.name.now c.in-Some.value (sym c.get.ensures ∙ c.in-Some.is) in
    subst (λ e. readers.value_in e (Some c.in-Some.value) ≡ named (environment_of e c.args.scope) c.args.name.now) c.self.view_is
    (found_means e.list e.values (names_over e c.args.scope) c.args.name.now (Some c.in-Some.value) (sym found))

pub returns-in-None-clause-value : goal.returns-in-None-clause-value
returns-in-None-clause-value c =
    let e : Evaluation = record { list = c.self.inside.kernel; values = c.self.inside.values; scopes = c.self.inside.scopes; top = c.self.inside.top; units = c.self.inside.units } in
    let within : IsScopeIn e c.args.scope = subst (λ e. IsScopeIn e c.args.scope) (sym c.self.view_is) c.requires in
    let found = named_second (names_in e.scopes c.args.scope) e.top c.args.name.now (sym c.get.ensures ∙ c.in-None.is) in
    subst (λ e. IfSome c.get-in-None.result (λ v. IsValueOf e v)) c.self.view_is
    (found_below (length e.values) (names_over e c.args.scope) c.args.name.now c.get-in-None.result (all_names_below e c.args.scope c.self.invariant within) (c.get-in-None.ensures ∙ sym found))

pub returns-in-None-clause-means : goal.returns-in-None-clause-means
returns-in-None-clause-means c =
    let e : Evaluation = record { list = c.self.inside.kernel; values = c.self.inside.values; scopes = c.self.inside.scopes; top = c.self.inside.top; units = c.self.inside.units } in
    let found = named_second (names_in e.scopes c.args.scope) e.top c.args.name.now (sym c.get.ensures ∙ c.in-None.is) in
    subst (λ e. readers.value_in e c.get-in-None.result ≡ named (environment_of e c.args.scope) c.args.name.now) c.self.view_is
    (found_means e.list e.values (names_over e c.args.scope) c.args.name.now c.get-in-None.result (c.get-in-None.ensures ∙ sym found))
