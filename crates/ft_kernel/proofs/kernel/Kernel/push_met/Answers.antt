use Rattle.std.proofs.Common.{rules, ◌≡◌, ◌∙◌, ap, sym, subst, length}
use Rattle.ft_items.specs.Good.{Allowed}
use Rattle.ft_items.specs.Item.{metavariable}
use Rattle.ft_items.specs.Store.{metavariables_in}
use Rattle.ft_kernel.specs.State.{State}
use Rattle.ft_kernel.proofs.LineKinds.{many_places}
use Rattle.ft_kernel.proofs.LineKinds as kinds
use Rattle.ft_kernel.proofs.Pushes.{push_met}
use Rattle.ft_kernel.proofs.kernel.Kernel.push_met.Goals as goal

pub invariant_of-self-in_default : goal.invariant_of-self-in_default
invariant_of-self-in_default c =
    let at : c.len.result ≡ length c.self.inside.lines.items = search rules in
    let number : c.len-number.result ≡ length c.self.inside.metavariables.items = search rules in
    push_met _ _ _ _ _ _ _ _ _ _ _ _ c.args.x c.self.invariant c.in_default.ensures.items c.in_ok-push.ensures.items at number
    (subst (λ (s : State). Allowed s.items (metavariable c.args.x.name c.args.x.boundary)) (sym c.self.view_is) c.requires)

pub returns-clause-number : goal.returns-clause-number
returns-clause-number c =
    let number : c.len-number.result ≡ length c.self.inside.metavariables.items = search rules in
    c.at.ensures ∙ number ∙ many_places kinds.metavariables c.self.inside.terms c.self.inside.lines.items _ c.self.invariant.metavariables_are
    ∙ ap (λ (s : State). length (metavariables_in s.items)) c.self.view_is
