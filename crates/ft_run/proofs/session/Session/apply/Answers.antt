use Rattle.std.proofs.Common.{◌≡◌, ◌∙◌, length, map}
use Rattle.ft_judge.specs.Meaning.{claim_in}
use Rattle.ft_run.specs.Given.{argument_of}
use Rattle.ft_run.proofs.Keeping.{all_claimed_kept}
use Rattle.ft_run.proofs.Applying.{concludes, concludes_before, fit_some, is_claimed}
use Rattle.ft_run.proofs.session.Session.apply.Goals as goal

pub conclude-requires-clause-given : goal.conclude-requires-clause-given
conclude-requires-clause-given c = (all_claimed_kept c.args.self.now c.symbol.new.self c.args.given.now c.symbol.ensures.keeps c.requires.given).1

pub returns-clause-claimed : goal.returns-clause-claimed
returns-clause-claimed c =
    let heads_given : c.deref.result.now ≡ map (λ x. argument_of x.form) c.args.given.now = c.deref.ensures.value ∙ c.in_ok-arguments.ensures in
    let kept = (all_claimed_kept c.args.self.now c.symbol.new.self c.args.given.now c.symbol.ensures.keeps c.requires.given).1 in
    let claim = concludes c.args.self.now c.symbol.new.self c.args.place c.args.given.now c.deref.result.now c.in_ok-head.head c.conclusion.result c.filled-form.result
    c.symbol.ensures.keeps c.requires.given heads_given c.in_ok-head.ensures.tree c.conclusion.ensures.goal c.filled-form.ensures.claim in
    is_claimed c.symbol.new.self c.conclude.new.self c.args.place c.in_ok-entry.entry c.args.given.now c.conclusion.result c.filled-form.result kept c.conclusion.ensures.goal c.conclusion.ensures.simple claim
    (c.filled-form.ensures.below (length c.symbol.new.self.state.trees) c.conclusion.ensures.below c.in_ok-head.ensures.within) c.conclude.ensures.trees c.in_ok-entry.ensures.entry

pub returns-clause-claim : goal.returns-clause-claim
returns-clause-claim c =
    let heads_given : c.deref.result.now ≡ map (λ x. argument_of x.form) c.args.given.now = c.deref.ensures.value ∙ c.in_ok-arguments.ensures in
    let claim = concludes c.args.self.now c.symbol.new.self c.args.place c.args.given.now c.deref.result.now c.in_ok-head.head c.conclusion.result c.filled-form.result
    c.symbol.ensures.keeps c.requires.given heads_given c.in_ok-head.ensures.tree c.conclusion.ensures.goal c.filled-form.ensures.claim in
    fit_some c.args.self.now c.args.place c.args.given.now c.deref.result.now c.fits.result (claim_in c.conclude.new.self.state.trees c.filled-form.result)
    heads_given c.fits.ensures c.if-not-fits.false c.in_ok-head.ensures.small
    (concludes_before c.args.self.now c.symbol.new.self c.args.place c.args.given.now c.conclude.new.self.state.trees c.filled-form.result c.symbol.ensures.keeps c.requires.given c.conclude.ensures.trees claim)

pub conclude-requires-clause-below : goal.conclude-requires-clause-below
conclude-requires-clause-below c = c.filled-form.ensures.below (length c.symbol.new.self.state.trees) c.conclusion.ensures.below c.in_ok-head.ensures.within
