use Rattle.std.proofs.Common.{sym, subst}
use Rattle.ft_items.specs.Good.{Allowed}
use Rattle.ft_items.specs.Item.{shown}
use Rattle.ft_kernel.specs.State.{State}
use Rattle.ft_kernel.proofs.Pushes.{push_shown}
use Rattle.ft_kernel.proofs.kernel.Kernel.push_shown.Goals as goal

pub invariant_of-self-2 : goal.invariant_of-self-2
invariant_of-self-2 c = push_shown _ _ _ _ _ _ _ _ _ _ _ c.self.invariant c.in_ok-push.ensures.items (subst (λ (s : State). Allowed s.items (shown c.args.j)) (sym c.self.view_is) c.requires)
