use Rattle.std.proofs.Common.{rules, ◌≡◌, sym, subst, length}
use Rattle.ft_items.specs.Good.{Allowed}
use Rattle.ft_items.specs.Item.{variable}
use Rattle.ft_kernel.specs.State.{State}
use Rattle.ft_kernel.proofs.Pushes.{push_var}
use Rattle.ft_kernel.proofs.kernel.Kernel.push_var.Goals as goal

pub invariant_of-self-2 : goal.invariant_of-self-2
invariant_of-self-2 c =
    let at : c.len-place.result ≡ length c.self.inside.lines.items = search rules in
    push_var _ _ _ _ _ _ _ _ _ _ _ _ _ c.args.x c.self.invariant c.in_ok-push.ensures.items at c.in_default.ensures.updates.0 c.max-self-inside.ensures
    (subst (λ (s : State). Allowed s.items (variable c.args.x.number c.args.x.name c.args.x.ty)) (sym c.self.view_is) c.requires.allowed)
