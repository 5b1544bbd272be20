use Rattle.std.proofs.Common.{rules, arith, ◌≡◌, ◌∙◌, refl, ap, sym, subst, length}
use Rattle.std.proofs.lemmas.Grind.{common_steps}
use Rattle.ft_items.specs.Good.{Allowed}
use Rattle.ft_items.specs.Item.{rule}
use Rattle.ft_items.specs.Store.{rules_in}
use Rattle.ft_kernel.specs.State.{State}
use Rattle.ft_kernel.proofs.LineKinds.{many_places}
use Rattle.ft_kernel.proofs.LineKinds as kinds
use Rattle.ft_kernel.proofs.Pushes.{push_rule, undone}
use Rattle.ft_kernel.proofs.kernel.Kernel.push_rule.Goals as goal

pub invariant_of-self-in_default-insert : goal.invariant_of-self-in_default-insert
invariant_of-self-in_default-insert c =
    let at : c.len.result ≡ length c.self.inside.lines.items = search rules in
    let number : c.len-number.result ≡ length c.self.inside.rules.items = search rules in
    push_rule _ _ _ _ _ _ _ _ _ _ _ _ _ _ c.args.x c.self.invariant c.in_default.ensures.items c.in_ok-push.ensures.items at number c.in_ok-name.ensures c.in_default-insert.ensures.updates.0
    (subst (λ (s : State). Allowed s.items (rule c.args.x.name c.args.x.premises c.args.x.conclusion)) (sym c.self.view_is) c.requires)

pub returns-clause-number : goal.returns-clause-number
returns-clause-number c =
    let number : c.len-number.result ≡ length c.self.inside.rules.items = search rules in
    c.at.ensures ∙ number ∙ many_places kinds.rules c.self.inside.terms c.self.inside.lines.items _ c.self.invariant.rules_are
    ∙ ap (λ (s : State). length (rules_in s.items)) c.self.view_is

pub invariant_of-self-in-Err : goal.invariant_of-self-in-Err
invariant_of-self-in-Err c =
    let lines : c.push-2.new.self.items ≡ c.self.inside.lines.items = search rules in
    let rules_undone : c.pop.new.self.items ≡ c.self.inside.rules.items = grind (arith, common_steps) in
    undone _ _ _ _ _ _ _ _ _ _ _ c.self.invariant lines rules_undone refl

pub invariant_of-self-in-Err-insert : goal.invariant_of-self-in-Err-insert
invariant_of-self-in-Err-insert c =
    let lines : c.pop-in-Err-insert.new.self.items ≡ c.self.inside.lines.items = grind (arith, common_steps) in
    let rules_undone : c.pop-in-Err-insert-2.new.self.items ≡ c.self.inside.rules.items = grind (arith, common_steps) in
    let names : c.insert.new.self.entries ≡ c.self.inside.names.entries = search rules in
    undone _ _ _ _ _ _ _ _ _ _ _ c.self.invariant lines rules_undone names
