use Rattle.std.proofs.Common.{◌∙◌, ◌+◌, drop, ap, sym, refl, subst, Ok}
use Rattle.ft_meaning.specs.Trees.{pattern}
use Rattle.ft_meaning.specs.Matching.{matches}
use Rattle.ft_running.specs.Evaluation.{run_of, value_over, environment_of}
use Rattle.ft_running.specs.Telling.{TellsEnd, TellsMatch, IsFoundIn}
use Rattle.ft_running.proofs.Further.{further_same, further_both}
use Rattle.ft_eval.proofs.Searching.{Searches, given_by, rest_is, asks_first, search_found, search_on, search_halts, search_value, search_scope, none_left}
use Rattle.ft_eval.proofs.resuming.first_match.Goals as goal

pub loop-c-init : goal.loop-c-init
loop-c-init c = record {
  is = c.holds.ensures;
  further = further_same c.args.state.now;
  value = c.requires.value;
  scope = c.requires.scope;
  same = refl;
  asks = c.requires.asks;
}

pub matches-requires-clause-value : goal.matches-requires-clause-value
matches-requires-clause-value c =
    search_value c.args.state.now c.loop-c.state c.args.at c.args.v c.args.scope c.args.cs.now (drop c.loop-c.c-index c.args.cs.now) c.loop-c.invariant

pub matches-requires-clause-scope : goal.matches-requires-clause-scope
matches-requires-clause-scope c =
    search_scope c.args.state.now c.loop-c.state c.args.at c.args.v c.args.scope c.args.cs.now (drop c.loop-c.c-index c.args.cs.now) c.loop-c.invariant

pub returns-in-Ok-Some-clause-turns : goal.returns-in-Ok-Some-clause-turns
returns-in-Ok-Some-clause-turns c =
    let rest = drop (c.loop-c.c-index + 1) c.args.cs.now in
    let h = subst (λ r. Searches c.args.state.now c.loop-c.state c.args.at c.args.v c.args.scope c.args.cs.now r) (rest_is c.args.cs.now c.loop-c.c-index c.c-item.result c.c-item.is c.loop-c-test.true) c.loop-c.invariant in
    let told = subst (λ r. TellsMatch (matches c.args.at (pattern c.c-item.result.pattern) (value_over c.loop-c.state c.args.v) (environment_of c.loop-c.state c.args.scope) (run_of c.loop-c.state)) (Ok r) c.matches.new.self) c.in-Ok-Some.field-0-is c.in-Ok-Some.ensures.tells in
    search_found c.args.state.now c.loop-c.state c.matches.new.self c.args.at c.args.v c.args.scope c.in-Ok-Some.inner c.args.cs.now c.c-item.result rest h told
    ∙ ap (λ e. Rattle.ft_eval.specs.Frames.value_of e (Rattle.ft_running.specs.Evaluation.environment_of c.matches.new.self c.in-Ok-Some.inner) (Rattle.ft_running.specs.Evaluation.run_of c.matches.new.self)) (sym c.get.ensures)

pub returns-in-Ok-Some-clause-further : goal.returns-in-Ok-Some-clause-further
returns-in-Ok-Some-clause-further c = further_both c.args.state.now c.loop-c.state c.matches.new.self c.loop-c.invariant.further c.matches.ensures.further

pub returns-in-Ok-Some-clause-fits : goal.returns-in-Ok-Some-clause-fits
returns-in-Ok-Some-clause-fits c =
    let rest = drop (c.loop-c.c-index + 1) c.args.cs.now in
    let h = subst (λ r. Searches c.args.state.now c.loop-c.state c.args.at c.args.v c.args.scope c.args.cs.now r) (rest_is c.args.cs.now c.loop-c.c-index c.c-item.result c.c-item.is c.loop-c-test.true) c.loop-c.invariant in (
      subst (λ r. IsFoundIn c.matches.new.self r) c.in-Ok-Some.field-0-is c.in-Ok-Some.ensures.tells.1,
      subst (λ e. Rattle.ft_eval.specs.Asking.AsksNothing (Rattle.ft_meaning.specs.Trees.form e)) (sym c.get.ensures)
          (asks_first c.args.state.now c.loop-c.state c.args.at c.args.v c.args.scope c.args.cs.now c.c-item.result rest h).0,
    )

pub returns-in-Err-clause-turns : goal.returns-in-Err-clause-turns
returns-in-Err-clause-turns c =
    let rest = drop (c.loop-c.c-index + 1) c.args.cs.now in
    let h = subst (λ r. Searches c.args.state.now c.loop-c.state c.args.at c.args.v c.args.scope c.args.cs.now r) (rest_is c.args.cs.now c.loop-c.c-index c.c-item.result c.c-item.is c.loop-c-test.true) c.loop-c.invariant in
    search_halts c.args.state.now c.loop-c.state c.matches.new.self c.args.at c.args.v c.args.scope c.args.cs.now c.c-item.result rest c.in-Err.halt h c.in-Err.ensures.tells

pub returns-in-Err-clause-further : goal.returns-in-Err-clause-further
returns-in-Err-clause-further c = further_both c.args.state.now c.loop-c.state c.matches.new.self c.loop-c.invariant.further c.matches.ensures.further

pub loop-c-preserved : goal.loop-c-preserved
loop-c-preserved c =
    let rest = drop (c.loop-c.c-index + 1) c.args.cs.now in
    let h = subst (λ r. Searches c.args.state.now c.loop-c.state c.args.at c.args.v c.args.scope c.args.cs.now r) (rest_is c.args.cs.now c.loop-c.c-index c.c-item.result c.c-item.is c.loop-c-test.true) c.loop-c.invariant in
    let told = subst (λ r. TellsMatch (matches c.args.at (pattern c.c-item.result.pattern) (value_over c.loop-c.state c.args.v) (environment_of c.loop-c.state c.args.scope) (run_of c.loop-c.state)) (Ok r) c.matches.new.self) c.in-Ok-None.field-0-is c.in-Ok-None.ensures.tells in
    search_on c.args.state.now c.loop-c.state c.matches.new.self c.args.at c.args.v c.args.scope c.args.cs.now c.c-item.result rest h c.matches.ensures.further told

pub returns-clause-turns : goal.returns-clause-turns
returns-clause-turns c =
    subst (λ e. TellsEnd (given_by c.args.state.now c.args.at c.args.v c.args.scope c.args.cs.now) e c.loop-c.state) (sym c.halts.ensures)
    (λ no. (tt, none_left c.args.state.now c.loop-c.state c.args.at c.args.v c.args.scope c.args.cs.now c.loop-c.c-index c.loop-c-test.false c.loop-c.invariant))

pub returns-clause-further : goal.returns-clause-further
returns-clause-further c = c.loop-c.invariant.further
