use Rattle.std.proofs.Common.{rules, ◌<◌, ◌∙◌, ap, sym, length}
use Rattle.ft_items.specs.Store.{metavariables_in}
use Rattle.ft_items.proofs.Lists.{nth_found}
use Rattle.ft_kernel.specs.Lines.{is_metavariable, added_metavariable}
use Rattle.ft_kernel.proofs.LineKinds as kinds
use Rattle.ft_kernel.proofs.Found.{read_below}
use Rattle.ft_kernel.proofs.Answered.{within_at, answered_at}
use Rattle.ft_kernel.proofs.Contents.{only_metavariable}
use Rattle.ft_kernel.proofs.kernel.Kernel.met.Goals as goal

pub index-requires : goal.index-requires
index-requires c =
    let lt : c.number.result < length c.self.inside.metavariables.items = within_at kinds.metavariables c.self.inside.terms c.self.inside.lines.items _ c.args.self.now c.args.m c.number.result c.self.invariant.metavariables_are c.self.view_is c.number.ensures c.requires in
    search rules

pub index-requires-2 : goal.index-requires-2
index-requires-2 c =
    let lt : c.number.result < length c.self.inside.metavariables.items = within_at kinds.metavariables c.self.inside.terms c.self.inside.lines.items _ c.args.self.now c.args.m c.number.result c.self.invariant.metavariables_are c.self.view_is c.number.ensures c.requires in
    let below : c.index.result.now < length c.self.inside.lines.items = read_below is_metavariable c.self.inside.lines.items c.self.inside.metavariables.items c.number.result c.index.result.now c.self.invariant.metavariables_are lt c.index.ensures in
    search rules

pub unreachable-requires : goal.unreachable-requires
unreachable-requires c =
    let found = nth_found (metavariables_in c.args.self.now.items) c.args.m c.requires in
    only_metavariable c.index-2.result.now.content found.0
    (answered_at kinds.metavariables c.self.inside.terms c.self.inside.lines.items _ c.args.self.now c.args.m c.number.result c.index.result.now c.index-2.result.now c.self.invariant.metavariables_are c.self.view_is c.number.ensures c.requires c.index.ensures c.index-2.ensures ∙ found.1)
    c.in_default.not-Metavariable

pub returns-clause-metavariable : goal.returns-clause-metavariable
returns-clause-metavariable c =
    sym (answered_at kinds.metavariables c.self.inside.terms c.self.inside.lines.items _ c.args.self.now c.args.m c.number.result c.index.result.now c.index-2.result.now c.self.invariant.metavariables_are c.self.view_is c.number.ensures c.requires c.index.ensures c.index-2.ensures)
    ∙ ap added_metavariable c.in-Metavariable.is
