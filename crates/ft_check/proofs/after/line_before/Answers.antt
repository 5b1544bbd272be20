use Rattle.std.proofs.Common.{take}
use Rattle.ft_check.proofs.Argued.{line_known}
use Rattle.ft_check.proofs.after.line_before.Goals as goal

pub returns : goal.returns
returns c = λ R g e. line_known (take c.args.i c.args.items.now.items) c.args.r c.rule_before.result R g e c.rule_before.ensures
