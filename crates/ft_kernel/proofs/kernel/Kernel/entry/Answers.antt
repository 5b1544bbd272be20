use Rattle.std.proofs.Common.{rules, ◌<◌, length}
use Rattle.ft_items.specs.Store.{entries_in}
use Rattle.ft_items.proofs.Lists.{nth_within}
use Rattle.ft_kernel.specs.Lines.{is_entry}
use Rattle.ft_kernel.proofs.LineKinds as kinds
use Rattle.ft_kernel.proofs.Found.{read_below}
use Rattle.ft_kernel.proofs.Answered.{within, answered, content_below}
use Rattle.ft_kernel.proofs.kernel.Kernel.entry.Goals as goal

pub index-requires : goal.index-requires
index-requires c =
    let lt : c.args.number < length c.self.inside.entries.items = within kinds.entries c.self.inside.terms c.self.inside.lines.items _ c.args.self.now c.args.number c.self.invariant.entries_are c.self.view_is (nth_within (entries_in c.args.self.now.items) c.args.number c.requires.0 c.requires.1) in
    search rules

pub index-requires-2 : goal.index-requires-2
index-requires-2 c =
    let lt : c.args.number < length c.self.inside.entries.items = within kinds.entries c.self.inside.terms c.self.inside.lines.items _ c.args.self.now c.args.number c.self.invariant.entries_are c.self.view_is (nth_within (entries_in c.args.self.now.items) c.args.number c.requires.0 c.requires.1) in
    let below : c.index.result.now < length c.self.inside.lines.items = read_below is_entry c.self.inside.lines.items c.self.inside.entries.items c.args.number c.index.result.now c.self.invariant.entries_are lt c.index.ensures in
    search rules

pub returns-clause-entry : goal.returns-clause-entry
returns-clause-entry c =
    let lt : c.args.number < length c.self.inside.entries.items = within kinds.entries c.self.inside.terms c.self.inside.lines.items _ c.args.self.now c.args.number c.self.invariant.entries_are c.self.view_is (nth_within (entries_in c.args.self.now.items) c.args.number c.requires.0 c.requires.1) in
    answered kinds.entries c.self.inside.terms c.self.inside.lines.items _ c.args.self.now c.args.number c.index.result.now c.index-2.result.now c.self.invariant.entries_are c.self.view_is lt c.index.ensures c.index-2.ensures

pub returns-clause-below : goal.returns-clause-below
returns-clause-below c =
    let lt : c.args.number < length c.self.inside.entries.items = within kinds.entries c.self.inside.terms c.self.inside.lines.items _ c.args.self.now c.args.number c.self.invariant.entries_are c.self.view_is (nth_within (entries_in c.args.self.now.items) c.args.number c.requires.0 c.requires.1) in
    let below : c.index.result.now < length c.self.inside.lines.items = read_below is_entry c.self.inside.lines.items c.self.inside.entries.items c.args.number c.index.result.now c.self.invariant.entries_are lt c.index.ensures in
    content_below c.self.inside.terms c.self.inside.lines.items c.args.self.now c.index.result.now c.index-2.result.now c.self.view_is c.self.invariant.below below c.index-2.ensures
