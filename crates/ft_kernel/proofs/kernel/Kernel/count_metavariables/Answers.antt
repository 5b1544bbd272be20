use Rattle.std.proofs.Common.{rules, ◌≡◌, ◌∙◌, ap, length}
use Rattle.ft_items.specs.Store.{metavariables_in}
use Rattle.ft_kernel.specs.State.{State}
use Rattle.ft_kernel.proofs.LineKinds.{many_places}
use Rattle.ft_kernel.proofs.LineKinds as kinds
use Rattle.ft_kernel.proofs.kernel.Kernel.count_metavariables.Goals as goal

pub returns : goal.returns
returns c =
    let many : c.len.result ≡ length c.self.inside.metavariables.items = search rules in
    many ∙ many_places kinds.metavariables c.self.inside.terms c.self.inside.lines.items c.self.inside.metavariables.items c.self.invariant.metavariables_are ∙ ap (λ (s : State). length (metavariables_in s.items)) c.self.view_is
