use Rattle.std.proofs.Common.{◌≡◌, ◌∙◌, ◌++◌, ◌∷◌, [], ap, ap₂, sym, subst}
use Rattle.std.specs.Prelude.{is_ok}
use Rattle.ft_items.specs.Item.{metavariable}
use Rattle.ft_kernel.specs.State.{with_item}
use Rattle.ft_rules.specs.Drafts.{Drafted, InOrder}
use Rattle.ft_rules.proofs.Mets.{order_next}
use Rattle.ft_rules.proofs.Premises.{premise_allowed, premise_made, premise_draft, pushed_ok, pushed_is, metavariable_there}
use Rattle.ft_rules.proofs.drafts.Draft.add.Goals as goal

pub invariant_of-self : goal.invariant_of-self
invariant_of-self c = subst InOrder (sym c.reserve.ensures.items) c.self.invariant

pub push_met-requires : goal.push_met-requires
push_met-requires c = premise_allowed c.args.k.now c.args.self.now c.in_ok-name.name c.args.b c.requires.boundary c.requires.own

pub invariant_of-self-in_err-met : goal.invariant_of-self-in_err-met
invariant_of-self-in_err-met c = subst InOrder (sym c.reserve.ensures.items) c.self.invariant

pub invariant_of-self-2 : goal.invariant_of-self-2
invariant_of-self-2 c =
    let d : Drafted = c.args.self.now in
    let old : c.self.inside.premises.items ≡ d.premises = ap (λ (d : Drafted). d.premises) c.self.view_is in
    let pushed : c.push.new.self.items ≡ d.premises ++ c.in_ok-met.met ∷ [] =
    pushed_is d c.self.inside.premises.items c.reserve.new.self.items c.push.new.self.items c.in_ok-met.met (is_ok c.push.result) old c.reserve.ensures.items (pushed_ok c.push.result (sym c.is_err.ensures.value ∙ c.if-is_err.false)) c.push.ensures.items in
    subst InOrder (sym pushed) (order_next c.args.k.now.items d c.in_ok-met.met c.terms-terms.ensures.good c.requires.draft (subst InOrder old c.self.invariant) c.in_ok-met.ensures.number)

pub returns-clause-premise : goal.returns-clause-premise
returns-clause-premise c =
    let s = c.args.k.now in
    let d : Drafted = c.args.self.now in
    let old : c.self.inside.premises.items ≡ d.premises = ap (λ (d : Drafted). d.premises) c.self.view_is in
    let pushed : c.push.new.self.items ≡ d.premises ++ c.in_ok-met.met ∷ [] =
    pushed_is d c.self.inside.premises.items c.reserve.new.self.items c.push.new.self.items c.in_ok-met.met (is_ok c.push.result) old c.reserve.ensures.items (pushed_ok c.push.result (sym c.is_err.ensures.value ∙ c.if-is_err.false)) c.push.ensures.items in
    premise_made s c.push_met.new.self d _ c.args.name.now c.args.b c.in_ok-met.met c.terms-terms.ensures.good c.requires.draft c.requires.boundary c.requires.own
    (c.in_ok-met.ensures.list ∙ ap (λ n. with_item s (metavariable n c.args.b)) c.in_ok-name.ensures) c.in_ok-met.ensures.number
    (ap₂ (λ n ms. record { name = n; premises = ms }) (ap (λ (d : Drafted). d.name) c.self.view_is) pushed)

pub returns-clause-draft : goal.returns-clause-draft
returns-clause-draft c =
    let s = c.args.k.now in
    let d : Drafted = c.args.self.now in
    let old : c.self.inside.premises.items ≡ d.premises = ap (λ (d : Drafted). d.premises) c.self.view_is in
    let pushed : c.push.new.self.items ≡ d.premises ++ c.in_ok-met.met ∷ [] =
    pushed_is d c.self.inside.premises.items c.reserve.new.self.items c.push.new.self.items c.in_ok-met.met (is_ok c.push.result) old c.reserve.ensures.items (pushed_ok c.push.result (sym c.is_err.ensures.value ∙ c.if-is_err.false)) c.push.ensures.items in
    premise_draft s c.push_met.new.self d (record { name = c.self.inside.name; premises = c.push.new.self.items }) c.args.name.now c.args.b c.in_ok-met.met c.requires.draft
    (premise_made s c.push_met.new.self d _ c.args.name.now c.args.b c.in_ok-met.met c.terms-terms.ensures.good c.requires.draft c.requires.boundary c.requires.own
    (c.in_ok-met.ensures.list ∙ ap (λ n. with_item s (metavariable n c.args.b)) c.in_ok-name.ensures) c.in_ok-met.ensures.number
    (ap₂ (λ n ms. record { name = n; premises = ms }) (ap (λ (d : Drafted). d.name) c.self.view_is) pushed))

pub returns-clause-metavariable : goal.returns-clause-metavariable
returns-clause-metavariable c = metavariable_there c.args.k.now c.push_met.new.self c.in_ok-name.name c.args.b c.in_ok-met.met c.in_ok-met.ensures.number c.in_ok-met.ensures.list
