use Rattle.std.proofs.Common.{arith, ◌∙◌, ◌+◌, sym, ap, subst}
use Rattle.std.specs.Prelude.{Ok}
use denote.Param.Weighed.{at_most}
use Rattle.ft_grammar.specs.declared.syntax.Pattern.{size-Pattern}
use Rattle.ft_meaning.specs.Matching.{matches}
use Rattle.ft_meaning.specs.Trees.{pattern}
use Rattle.ft_values.specs.Kept.{stated_at}
use Rattle.ft_running.specs.Evaluation.{run_of, environment_of, value_over}
use Rattle.ft_running.specs.Matching.{matches_argument}
use Rattle.ft_running.specs.Telling.{TellsMatch}
use Rattle.ft_running.proofs.Further.{further_both, thesis_further, stated_further}
use Rattle.ft_running.proofs.Matched.{both_found, found_next, none_next, halts_next}
use Rattle.ft_running.proofs.Applied.{argument_found, arguments_from, next_argument}
use Rattle.ft_running.proofs.Told.{named_told}
use Rattle.ft_running.proofs.state.State.+matching.Goals as goal

pub match_argument-returns-in-Ok-clause-tells : goal.match_argument-returns-in-Ok-clause-tells
match_argument-returns-in-Ok-clause-tells t c =
    argument_found c.args.self.now c.argument_value.new.self c.matches.new.self c.args.at c.args.i (pattern c.args.p.now) (stated_at c.args.self.now.list c.args.j) c.args.scope c.in-Ok.v c.matches.result
    c.holds.ensures c.argument_value.ensures.further c.requires.scope c.in-Ok.ensures.tells c.matches.ensures.tells

pub match_both-returns-in-Ok-Some-clause-tells : goal.match_both-returns-in-Ok-Some-clause-tells
match_both-returns-in-Ok-Some-clause-tells t c =
    let e = c.args.self.now in
    let f = c.matches.new.self in
    both_found e f c.matches-in-Ok-Some.new.self c.args.at (pattern c.args.p.now) (pattern c.args.q.now) c.args.scope c.in-Ok-Some.found c.args.parts.0 c.args.parts.1 c.matches-in-Ok-Some.result
    c.holds.ensures c.matches.ensures.further c.requires.second
    (subst (λ o. TellsMatch (matches c.args.at (pattern c.args.p.now) (value_over e c.args.parts.0) (environment_of e c.args.scope) (run_of e)) (Ok o) f) c.in-Ok-Some.field-0-is c.in-Ok-Some.ensures.tells)
    c.matches-in-Ok-Some.ensures.tells

pub matches-returns-in-Name-clause-tells : goal.matches-returns-in-Name-clause-tells
matches-returns-in-Name-clause-tells t c =
    named_told c.args.at _ c.args.wanted.now _ (value_over c.args.self.now c.args.v) (environment_of c.args.self.now c.args.scope) (run_of c.args.self.now) c.match_name.result c.match_name.new.self
    c.in-Name.is c.match_name.ensures.tells

pub match_arguments-match_argument-requires : goal.match_arguments-match_argument-requires
match_arguments-match_argument-requires t c = (
  omega (arith, ap size-Pattern c.index-ps-i.is, at_most size-Pattern c.args.ps.now c.matching.i c.index-ps-i.result c.matching-test.true),
  (thesis_further c.args.self.now c.matching.self c.args.j c.matching.invariant.further c.requires.thesis, c.matching.invariant.scope),
)

pub match_arguments-returns-in-Ok-None-clause-tells : goal.match_arguments-returns-in-Ok-None-clause-tells
match_arguments-returns-in-Ok-None-clause-tells t c =
    let e = c.args.self.now in
    let w = c.matching.self in
    let f = c.match_argument.new.self in
    let p = c.index-ps-i.result in
    let J = stated_at e.list c.args.j in
    let G = environment_of w c.matching.found in
    let told = subst (λ r. TellsMatch (matches_argument c.args.at (pattern p) J (c.matching.i + 1) G (run_of w)) r f) (c.in-Ok-None.is ∙ ap (λ o. Ok o) c.in-Ok-None.field-0-is)
    (subst (λ a. TellsMatch (matches_argument c.args.at (pattern p) a (c.matching.i + 1) G (run_of w)) c.match_argument.result f) (stated_further e w c.args.j c.matching.invariant.further c.requires.thesis) c.match_argument.ensures.tells) in (
      sym c.matching.invariant.left
          ∙ next_argument c.args.at c.args.ps.now J c.matching.i p G (run_of w) c.index-ps-i.is c.matching-test.true
          ∙ none_next (matches_argument c.args.at (pattern p) J (c.matching.i + 1) G) (arguments_from c.args.at c.args.ps.now J (c.matching.i + 1)) (run_of w) (run_of f) told.0,
      tt,
    )

pub match_arguments-returns-in-Err-clause-tells : goal.match_arguments-returns-in-Err-clause-tells
match_arguments-returns-in-Err-clause-tells t c =
    let e = c.args.self.now in
    let w = c.matching.self in
    let f = c.match_argument.new.self in
    let p = c.index-ps-i.result in
    let J = stated_at e.list c.args.j in
    let G = environment_of w c.matching.found in
    let told = subst (λ r. TellsMatch (matches_argument c.args.at (pattern p) J (c.matching.i + 1) G (run_of w)) r f) c.in-Err.is
    (subst (λ a. TellsMatch (matches_argument c.args.at (pattern p) a (c.matching.i + 1) G (run_of w)) c.match_argument.result f) (stated_further e w c.args.j c.matching.invariant.further c.requires.thesis) c.match_argument.ensures.tells) in
    let halts = halts_next (matches_argument c.args.at (pattern p) J (c.matching.i + 1) G) (arguments_from c.args.at c.args.ps.now J (c.matching.i + 1)) (run_of w) c.in-Err.halt f told in
    λ other. (
      (halts other).0,
      sym c.matching.invariant.left
          ∙ next_argument c.args.at c.args.ps.now J c.matching.i p G (run_of w) c.index-ps-i.is c.matching-test.true
          ∙ (halts other).1,
    )

pub match_arguments-matching-preserved : goal.match_arguments-matching-preserved
match_arguments-matching-preserved t c =
    let e = c.args.self.now in
    let w = c.matching.self in
    let f = c.match_argument.new.self in
    let p = c.index-ps-i.result in
    let J = stated_at e.list c.args.j in
    let G = environment_of w c.matching.found in
    let told = subst (λ r. TellsMatch (matches_argument c.args.at (pattern p) J (c.matching.i + 1) G (run_of w)) r f) (c.in-Ok-Some.is ∙ ap (λ o. Ok o) c.in-Ok-Some.field-0-is)
    (subst (λ a. TellsMatch (matches_argument c.args.at (pattern p) a (c.matching.i + 1) G (run_of w)) c.match_argument.result f) (stated_further e w c.args.j c.matching.invariant.further c.requires.thesis) c.match_argument.ensures.tells) in
    record {
      scope = told.1;
      further = further_both e w f c.matching.invariant.further c.match_argument.ensures.further;
      units = c.match_argument.ensures.units ∙ c.matching.invariant.units;
      left = sym (found_next (matches_argument c.args.at (pattern p) J (c.matching.i + 1) G) (arguments_from c.args.at c.args.ps.now J (c.matching.i + 1)) (run_of w) (run_of f) (environment_of f c.in-Ok-Some.next) told.0)
          ∙ sym (next_argument c.args.at c.args.ps.now J c.matching.i p G (run_of w) c.index-ps-i.is c.matching-test.true)
          ∙ c.matching.invariant.left;
    }

pub match_argument-returns-in-Ok-clause-further : goal.match_argument-returns-in-Ok-clause-further
match_argument-returns-in-Ok-clause-further t c =
    further_both c.args.self.now c.argument_value.new.self c.matches.new.self c.argument_value.ensures.further c.matches.ensures.further

pub match_arguments-returns-in-Ok-None-clause-further : goal.match_arguments-returns-in-Ok-None-clause-further
match_arguments-returns-in-Ok-None-clause-further t c =
    further_both c.args.self.now c.matching.self c.match_argument.new.self c.matching.invariant.further c.match_argument.ensures.further

pub match_arguments-returns-in-Err-clause-further : goal.match_arguments-returns-in-Err-clause-further
match_arguments-returns-in-Err-clause-further t c =
    further_both c.args.self.now c.matching.self c.match_argument.new.self c.matching.invariant.further c.match_argument.ensures.further

pub match_both-returns-in-Ok-Some-clause-further : goal.match_both-returns-in-Ok-Some-clause-further
match_both-returns-in-Ok-Some-clause-further t c =
    further_both c.args.self.now c.matches.new.self c.matches-in-Ok-Some.new.self c.matches.ensures.further c.matches-in-Ok-Some.ensures.further
