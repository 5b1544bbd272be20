use Rattle.std.proofs.Common.{◌∙◌, ap, refl}
use Rattle.ft_rules.specs.Drafts.{Drafted}
use Rattle.ft_rules.proofs.Finishing.{MayFinish, may_finish, finish_allowed, finish_made, finish_finitary, stays_finitary, rule_there}
use Rattle.ft_rules.proofs.drafts.Draft.push.Goals as goal

pub returns-in_err-name-clause-finitary : goal.returns-in_err-name-clause-finitary
returns-in_err-name-clause-finitary c = stays_finitary c.args.k.now c.args.k.now c.terms-terms.ensures.good refl

pub returns-in_err-premises-clause-finitary : goal.returns-in_err-premises-clause-finitary
returns-in_err-premises-clause-finitary c = stays_finitary c.args.k.now c.args.k.now c.terms-terms.ensures.good refl

pub returns-in_err-push_rule-clause-finitary : goal.returns-in_err-push_rule-clause-finitary
returns-in_err-push_rule-clause-finitary c = stays_finitary c.args.k.now c.push_rule.new.self c.terms-terms.ensures.good c.in_err-push_rule.ensures.err

pub push_rule-requires : goal.push_rule-requires
push_rule-requires c =
    let d : Drafted = c.args.self.now in
    let f : MayFinish c.args.k.now d c.args.conclusion = may_finish c.args.k.now d c.args.conclusion c.terms-terms.ensures.good c.requires.draft c.requires.conclusion c.requires.name c.requires.own in
    finish_allowed c.args.k.now d c.args.conclusion c.in_ok-name.name c.in_ok-premises.premises f (c.in_ok-name.ensures ∙ ap (λ (d : Drafted). d.name) c.self.view_is)
    (c.in_ok-premises.ensures ∙ c.deref.ensures.value ∙ ap (λ (d : Drafted). d.premises) c.self.view_is)

pub returns-clause-finishes : goal.returns-clause-finishes
returns-clause-finishes c =
    let d : Drafted = c.args.self.now in
    let f : MayFinish c.args.k.now d c.args.conclusion = may_finish c.args.k.now d c.args.conclusion c.terms-terms.ensures.good c.requires.draft c.requires.conclusion c.requires.name c.requires.own in
    finish_made c.args.k.now c.push_rule.new.self d c.args.conclusion c.in_ok-push_rule.field-0 c.in_ok-name.name c.in_ok-premises.premises f (c.in_ok-name.ensures ∙ ap (λ (d : Drafted). d.name) c.self.view_is)
    (c.in_ok-premises.ensures ∙ c.deref.ensures.value ∙ ap (λ (d : Drafted). d.premises) c.self.view_is) c.in_ok-push_rule.ensures.list c.in_ok-push_rule.ensures.number

pub returns-clause-finitary : goal.returns-clause-finitary
returns-clause-finitary c =
    let d : Drafted = c.args.self.now in
    let f : MayFinish c.args.k.now d c.args.conclusion = may_finish c.args.k.now d c.args.conclusion c.terms-terms.ensures.good c.requires.draft c.requires.conclusion c.requires.name c.requires.own in
    finish_finitary c.args.k.now c.push_rule.new.self d c.args.conclusion c.in_ok-push_rule.field-0 f
    (finish_made c.args.k.now c.push_rule.new.self d c.args.conclusion c.in_ok-push_rule.field-0 c.in_ok-name.name c.in_ok-premises.premises f (c.in_ok-name.ensures ∙ ap (λ (d : Drafted). d.name) c.self.view_is)
    (c.in_ok-premises.ensures ∙ c.deref.ensures.value ∙ ap (λ (d : Drafted). d.premises) c.self.view_is) c.in_ok-push_rule.ensures.list c.in_ok-push_rule.ensures.number)

pub returns-clause-rule : goal.returns-clause-rule
returns-clause-rule c = rule_there c.args.k.now c.push_rule.new.self c.in_ok-name.name c.in_ok-premises.premises c.args.conclusion c.in_ok-push_rule.field-0 c.in_ok-push_rule.ensures.number c.in_ok-push_rule.ensures.list
