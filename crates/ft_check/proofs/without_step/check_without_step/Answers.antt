use Rattle.std.proofs.Common.{take}
use Rattle.ft_check.proofs.Stating.{without_step, against_item}
use Rattle.ft_check.proofs.without_step.check_without_step.Goals as goal

pub unreachable-requires : goal.unreachable-requires
unreachable-requires c = without_step c.args.items.now.trees c.item.result.now (c.requires.kind _ c.item.ensures.item) c.in_default.not-Var c.in_default.not-Met c.in_default.not-Rule c.in_default.not-Shown

pub returns-in-Var : goal.returns-in-Var
returns-in-Var c = λ x h. against_item c.args.items.now.trees c.args.items.now.items (take c.args.i c.args.items.now.items) c.args.i c.item.result.now _ x c.check_variable.result c.item.ensures.item h c.in-Var.is (c.check_variable.ensures c.in-Var.field-1)

pub returns-in-Met : goal.returns-in-Met
returns-in-Met c = λ x h. against_item c.args.items.now.trees c.args.items.now.items (take c.args.i c.args.items.now.items) c.args.i c.item.result.now _ x c.check_metavariable.result c.item.ensures.item h c.in-Met.is (c.check_metavariable.ensures c.in-Met.field-0)
