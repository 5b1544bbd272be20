use Rattle.std.proofs.Common.{rules, ◌≡◌, ◌∙◌, ap, sym, subst, length}
use Rattle.ft_items.specs.Good.{Allowed}
use Rattle.ft_items.specs.Store.{entries_in}
use Rattle.ft_kernel.specs.State.{State}
use Rattle.ft_kernel.specs.Lines.{item_in, ContentBelow}
use Rattle.ft_kernel.proofs.LineKinds.{many_places}
use Rattle.ft_kernel.proofs.LineKinds as kinds
use Rattle.ft_kernel.proofs.Pushes.{push_entry}
use Rattle.ft_kernel.proofs.kernel.Kernel.push_entry.Goals as goal

pub invariant_of-self-in_default : goal.invariant_of-self-in_default
invariant_of-self-in_default c =
    let at : c.len.result ≡ length c.self.inside.lines.items = search rules in
    let number : c.len-number.result ≡ length c.self.inside.entries.items = search rules in
    push_entry _ _ _ _ _ _ _ _ _ _ _ _ c.args.content c.self.invariant c.in_default.ensures.items c.in_ok-push.ensures.items at number c.requires.entry
    (subst (λ (s : State). ContentBelow (length s.trees) c.args.content) (sym c.self.view_is) c.requires.below)
    (subst (λ (s : State). Allowed s.items (item_in s.trees c.args.content)) (sym c.self.view_is) c.requires.allowed)

pub returns-clause-number : goal.returns-clause-number
returns-clause-number c =
    let number : c.len-number.result ≡ length c.self.inside.entries.items = search rules in
    number ∙ many_places kinds.entries c.self.inside.terms c.self.inside.lines.items _ c.self.invariant.entries_are
    ∙ ap (λ (s : State). length (entries_in s.items)) c.self.view_is
