use Rattle.std.proofs.Common.{◌<◌, sym, subst, length}
use Rattle.std.proofs.lemmas.List.{length-map}
use Rattle.ft_kernel.specs.State.{State}
use Rattle.ft_kernel.specs.Lines.{item_in}
use Rattle.ft_kernel.specs.declared.line.Line.{Line}
use Rattle.ft_kernel.proofs.Answered.{shown_line}
use Rattle.ft_kernel.proofs.kernel.Kernel.item.Goals as goal

pub returns : goal.returns
returns c =
    let lt : c.args.i < length c.self.inside.lines.items = subst (λ n. c.args.i < n) (length-map c.self.inside.lines.items (λ (l : Line). item_in c.self.inside.terms l.content))
    (subst (λ (s : State). c.args.i < length s.items) (sym c.self.view_is) c.requires) in
    shown_line c.self.inside.terms c.self.inside.lines.items c.args.self.now c.args.i c.index.result.now c.self.view_is lt c.index.ensures
    c.self.invariant.entries_numbered c.self.invariant.metavariables_numbered c.self.invariant.rules_numbered c.show.result c.show.ensures
