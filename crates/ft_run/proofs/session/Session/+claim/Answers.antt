use Rattle.std.proofs.Common.{◌≡◌, ◌∙◌, ◌<◌, ◌≤◌, sym, ap, subst, length, None, Some, IfOk, rules, map, take}
use Rattle.ft_applications_meaning.specs.Building.{claim_of, all_of}
use Rattle.ft_judge.specs.Meaning.{claim_in}
use Rattle.ft_run.specs.Session.{claims_in}
use Rattle.ft_run.proofs.Keeping.{keeps_then}
use Rattle.ft_run.proofs.Claims.{given_next, claims_next, claims_none, claim_named}
use Rattle.ft_run.proofs.session.Session.+claim.Goals as goal

pub returns-in_err-claim-clause-none : goal.returns-in_err-claim-clause-none
returns-in_err-claim-clause-none t c = λ h.
    let below : c.loop-argument.argument-index < length c.parts.result.1.now = search rules in
    let none : claim_of c.loop-argument.self.rules c.argument-item.result ≡ None = search rules in
    claims_none c.args.self.now.rules c.loop-argument.self c.parts.result.1.now c.loop-argument.argument-index c.argument-item.result c.args.a.now c.parts.result.0.now
    c.loop-argument.invariant.keeps.rules c.parts.ensures below c.argument-item.is none

pub loop-argument-preserved : goal.loop-argument-preserved
loop-argument-preserved t c =
    let below : c.loop-argument.argument-index < length c.parts.result.1.now = search rules in
    record {
      given = given_next c.loop-argument.self c.claim.new.self c.loop-argument.given.items c.push.new.self.items c.in_ok-claim.field-0 c.claim.ensures.keeps c.loop-argument.invariant.given c.in_ok-claim.ensures.claimed c.in_ok-push.ensures.items;
      claims = claims_next c.args.self.now.rules c.loop-argument.self c.claim.new.self c.parts.result.1.now c.loop-argument.argument-index c.argument-item.result c.loop-argument.given.items c.push.new.self.items c.in_ok-claim.field-0
          c.claim.ensures.keeps c.loop-argument.invariant.given c.loop-argument.invariant.keeps.rules below c.argument-item.is c.in_ok-claim.ensures.claim c.in_ok-push.ensures.items c.loop-argument.invariant.claims;
      keeps = keeps_then c.args.self.now c.loop-argument.self c.claim.new.self c.loop-argument.invariant.keeps c.claim.ensures.keeps;
    }

pub returns-clause-claim : goal.returns-clause-claim
returns-clause-claim t c =
    let ended : length c.parts.result.1.now ≤ c.loop-argument.argument-index = search rules in
    let claims : all_of (map (claim_of c.args.self.now.rules) (take c.loop-argument.argument-index c.parts.result.1.now)) ≡ Some (claims_in c.loop-argument.self.state.trees c.deref.result.now) =
    c.loop-argument.invariant.claims ∙ ap (λ xs. Some (claims_in c.loop-argument.self.state.trees xs)) (sym c.deref.ensures.value) in
    let named = claim_named c.args.self.now.rules c.loop-argument.self c.parts.result.1.now c.loop-argument.argument-index c.args.a.now c.parts.result.0.now (claims_in c.loop-argument.self.state.trees c.deref.result.now)
    c.loop-argument.invariant.keeps.rules c.parts.ensures ended claims in
    subst (λ o. IfOk c.apply_named.result (λ x. o ≡ Some (claim_in c.apply_named.new.self.state.trees x.form))) (sym named) c.apply_named.ensures.claim

pub returns-clause-none : goal.returns-clause-none
returns-clause-none t c = λ h.
    let ended : length c.parts.result.1.now ≤ c.loop-argument.argument-index = search rules in
    let claims : all_of (map (claim_of c.args.self.now.rules) (take c.loop-argument.argument-index c.parts.result.1.now)) ≡ Some (claims_in c.loop-argument.self.state.trees c.deref.result.now) =
    c.loop-argument.invariant.claims ∙ ap (λ xs. Some (claims_in c.loop-argument.self.state.trees xs)) (sym c.deref.ensures.value) in
    claim_named c.args.self.now.rules c.loop-argument.self c.parts.result.1.now c.loop-argument.argument-index c.args.a.now c.parts.result.0.now (claims_in c.loop-argument.self.state.trees c.deref.result.now)
    c.loop-argument.invariant.keeps.rules c.parts.ensures ended claims ∙ c.apply_named.ensures.none h

pub returns-in_err-claim-clause-keeps : goal.returns-in_err-claim-clause-keeps
returns-in_err-claim-clause-keeps t c = keeps_then c.args.self.now c.loop-argument.self c.claim.new.self c.loop-argument.invariant.keeps c.claim.ensures.keeps

pub returns-in_err-push-clause-keeps : goal.returns-in_err-push-clause-keeps
returns-in_err-push-clause-keeps t c = keeps_then c.args.self.now c.loop-argument.self c.claim.new.self c.loop-argument.invariant.keeps c.claim.ensures.keeps

pub returns-clause-keeps : goal.returns-clause-keeps
returns-clause-keeps t c = keeps_then c.args.self.now c.loop-argument.self c.apply_named.new.self c.loop-argument.invariant.keeps c.apply_named.ensures.keeps
