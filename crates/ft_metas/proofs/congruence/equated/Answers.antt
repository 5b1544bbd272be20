use Rattle.std.proofs.Common.{◌≡◌, ◌∙◌, length, subst, sym, ap}
use Rattle.ft_theory.specs.Small.{IsSmall}
use Rattle.ft_theory.specs.Expressions.{meta}
use Rattle.ft_syntax.specs.declared.syntax.SynFault.TheVariants.{TooBig}
use Rattle.ft_syntax.specs.Laws.{all_below_extends, below_extends, extends_trans}
use Rattle.ft_judge.specs.Meaning.{goal_in}
use Rattle.ft_judge.specs.Laws.{goal_below_extends}
use Rattle.ft_reference.specs.Refusals.{AllSmall, claim_expressions}
use Rattle.ft_metas.specs.Putting.{meta_in, equated_at}
use Rattle.ft_metas.proofs.Applied.{terms_extend}
use Rattle.ft_metas.proofs.Sides.{left_part, parts_whole, fault_big, equation_is}
use Rattle.ft_metas.proofs.congruence.equated.Goals as goal

pub meta-requires-2 : goal.meta-requires-2
meta-requires-2 c = all_below_extends c.args.k.now.trees c.meta.new.self.trees c.args.rights.now c.meta.ensures.goes_on c.requires.rights

pub returns-in-Err-clause-small : goal.returns-in-Err-clause-small
returns-in-Err-clause-small c =
    let s = c.args.k.now.trees in
    let g = goal_in s c.args.goal.now in
    let l = meta_in s c.args.m c.args.lefts.now in
    let r = meta_in s c.args.m c.args.rights.now in
    fault_big (IsSmall l) (AllSmall (claim_expressions (equated_at s c.args.goal.now c.args.m c.args.lefts.now c.args.rights.now))) c.in-Err.fault
    (subst (λ m. c.in-Err.fault ≡ TooBig → IsSmall (meta_in s m c.args.lefts.now) → ⊥) c.number.ensures c.in-Err.ensures.too_big)
    (λ h. (left_part g l r (c.requires.object s) h).0)

pub returns-in-Err-meta-clause-small : goal.returns-in-Err-meta-clause-small
returns-in-Err-meta-clause-small c =
    let s = c.args.k.now.trees in
    let t = c.meta.new.self.trees in
    let g = goal_in s c.args.goal.now in
    let l = meta_in s c.args.m c.args.lefts.now in
    let r = meta_in s c.args.m c.args.rights.now in
    fault_big (IsSmall (meta_in t c.args.m c.args.rights.now)) (AllSmall (claim_expressions (equated_at s c.args.goal.now c.args.m c.args.lefts.now c.args.rights.now))) c.in-Err-meta.fault
    (subst (λ m. c.in-Err-meta.fault ≡ TooBig → IsSmall (meta_in t m c.args.rights.now) → ⊥) c.number-2.ensures c.in-Err-meta.ensures.too_big)
    (λ h. subst IsSmall (ap (meta c.args.m) (sym (terms_extend s t c.args.rights.now c.meta.ensures.goes_on c.requires.rights))) (left_part g l r (c.requires.object s) h).1)

pub returns-clause-within : goal.returns-clause-within
returns-clause-within c =
    let s = c.args.k.now.trees in
    let t = c.meta.new.self.trees in
    let u = c.meta-2.new.self.trees in
    c.equation.ensures.below (length u) (goal_below_extends s u c.args.goal.now (extends_trans s t u c.meta.ensures.goes_on c.meta-2.ensures.goes_on) c.requires.goal)
    (below_extends t u c.in-Ok.left c.meta-2.ensures.goes_on c.in-Ok.ensures.within) c.in-Ok-meta.ensures.within

pub returns-clause-form : goal.returns-clause-form
returns-clause-form c =
    equation_is c.args.k.now.trees c.meta.new.self.trees c.meta-2.new.self.trees c.args.goal.now c.args.m c.args.lefts.now c.args.rights.now c.in-Ok.left c.in-Ok-meta.right c.equation.result
    c.meta.ensures.goes_on c.meta-2.ensures.goes_on c.requires.goal c.requires.rights c.in-Ok.ensures.within c.equation.ensures.equation
    (c.in-Ok.ensures.tree ∙ ap (λ m. meta_in c.args.k.now.trees m c.args.lefts.now) c.number.ensures) (c.in-Ok-meta.ensures.tree ∙ ap (λ m. meta_in c.meta.new.self.trees m c.args.rights.now) c.number-2.ensures)

pub returns-clause-small : goal.returns-clause-small
returns-clause-small c =
    let s = c.args.k.now.trees in
    let t = c.meta.new.self.trees in
    parts_whole (goal_in s c.args.goal.now) (meta_in s c.args.m c.args.lefts.now) (meta_in s c.args.m c.args.rights.now) c.requires.small
    (subst (λ m. IsSmall (meta_in s m c.args.lefts.now)) c.number.ensures c.in-Ok.ensures.small)
    (subst IsSmall (ap (meta c.args.m) (terms_extend s t c.args.rights.now c.meta.ensures.goes_on c.requires.rights)) (subst (λ m. IsSmall (meta_in t m c.args.rights.now)) c.number-2.ensures c.in-Ok-meta.ensures.small))
