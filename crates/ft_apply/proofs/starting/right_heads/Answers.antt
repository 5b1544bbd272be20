use Rattle.std.proofs.Common.{subst, sym}
use Rattle.ft_reference.specs.Compare.{equation_checks}
use Rattle.ft_apply.specs.Named.{statements_of}
use Rattle.ft_apply.specs.Outcomes.{Stops}
use Rattle.ft_apply.specs.Equations.{equation_checks_in}
use Rattle.ft_apply.proofs.Concluded.{all_same}
use Rattle.ft_apply.proofs.Starts.{starts_counted, starts_asked}
use Rattle.ft_apply.proofs.starting.right_heads.Goals as goal

pub returns-then-equations-wanted-clause-checks : goal.returns-then-equations-wanted-clause-checks
returns-then-equations-wanted-clause-checks c =
    let s = c.args.k.now in
    subst (Stops s.trees (equation_checks_in s.items c.args.args.now c.args.equations.now)) (sym c.counts.ensures)
    (starts_counted s s.trees c.args.args.now c.args.equations.now c.count_heads-wanted.result c.count_heads-wanted.ensures c.if-equations-wanted.true)

pub returns-clause-checks : goal.returns-clause-checks
returns-clause-checks c =
    let s = c.args.k.now in
    all_same s.trees (equation_checks_in s.items c.args.args.now c.args.equations.now) (equation_checks (statements_of s.items c.args.args.now) (statements_of s.items c.args.equations.now)) c.all_right.result
    (starts_asked s c.args.args.now c.args.equations.now c.count_heads-wanted.result c.count_heads-wanted.ensures c.if-equations-wanted.false) c.all_right.ensures.checks
