use Rattle.std.proofs.Common.{rules, ◌<◌, ◌∙◌, ap, sym, length}
use Rattle.ft_items.specs.Store.{rules_in}
use Rattle.ft_items.proofs.Lists.{nth_found}
use Rattle.ft_kernel.specs.Lines.{is_rule, added_rule}
use Rattle.ft_kernel.proofs.LineKinds as kinds
use Rattle.ft_kernel.proofs.Found.{read_below}
use Rattle.ft_kernel.proofs.Answered.{within_at, answered_at}
use Rattle.ft_kernel.proofs.Contents.{only_rule}
use Rattle.ft_kernel.proofs.kernel.Kernel.rule.Goals as goal

pub index-requires : goal.index-requires
index-requires c =
    let lt : c.number.result < length c.self.inside.rules.items = within_at kinds.rules c.self.inside.terms c.self.inside.lines.items _ c.args.self.now c.args.r c.number.result c.self.invariant.rules_are c.self.view_is c.number.ensures c.requires in
    search rules

pub index-requires-2 : goal.index-requires-2
index-requires-2 c =
    let lt : c.number.result < length c.self.inside.rules.items = within_at kinds.rules c.self.inside.terms c.self.inside.lines.items _ c.args.self.now c.args.r c.number.result c.self.invariant.rules_are c.self.view_is c.number.ensures c.requires in
    let below : c.index.result.now < length c.self.inside.lines.items = read_below is_rule c.self.inside.lines.items c.self.inside.rules.items c.number.result c.index.result.now c.self.invariant.rules_are lt c.index.ensures in
    search rules

pub unreachable-requires : goal.unreachable-requires
unreachable-requires c =
    let found = nth_found (rules_in c.args.self.now.items) c.args.r c.requires in
    only_rule c.index-2.result.now.content found.0
    (answered_at kinds.rules c.self.inside.terms c.self.inside.lines.items _ c.args.self.now c.args.r c.number.result c.index.result.now c.index-2.result.now c.self.invariant.rules_are c.self.view_is c.number.ensures c.requires c.index.ensures c.index-2.ensures ∙ found.1)
    c.in_default.not-Rule

pub returns-clause-rule : goal.returns-clause-rule
returns-clause-rule c =
    sym (answered_at kinds.rules c.self.inside.terms c.self.inside.lines.items _ c.args.self.now c.args.r c.number.result c.index.result.now c.index-2.result.now c.self.invariant.rules_are c.self.view_is c.number.ensures c.requires c.index.ensures c.index-2.ensures)
    ∙ ap added_rule c.in-Rule.is
