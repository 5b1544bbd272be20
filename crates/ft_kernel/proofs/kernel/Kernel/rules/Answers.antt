use Rattle.std.proofs.Common.{rules, ◌≡◌, ◌∙◌, ap, length}
use Rattle.ft_items.specs.Store.{rules_in}
use Rattle.ft_kernel.specs.State.{State}
use Rattle.ft_kernel.proofs.LineKinds.{many_places}
use Rattle.ft_kernel.proofs.LineKinds as kinds
use Rattle.ft_kernel.proofs.kernel.Kernel.rules.Goals as goal

pub returns : goal.returns
returns c =
    let many : c.len.result ≡ length c.self.inside.rules.items = search rules in
    many ∙ many_places kinds.rules c.self.inside.terms c.self.inside.lines.items c.self.inside.rules.items c.self.invariant.rules_are ∙ ap (λ (s : State). length (rules_in s.items)) c.self.view_is
