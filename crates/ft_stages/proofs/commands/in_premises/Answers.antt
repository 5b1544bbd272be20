use Rattle.std.proofs.Common.{rules, ◌≡◌, ◌∙◌, sym, Some, None}
use Rattle.ft_meaning.specs.Trees.{premise}
use Rattle.ft_stages.specs.First.{first, premise_parts}
use Rattle.ft_stages.proofs.Firsts.{splits_here, splits_later}
use Rattle.ft_stages.proofs.Rows.{premises_at}
use Rattle.ft_stages.proofs.commands.in_premises.Goals as goal

pub returns-in-Some : goal.returns-in-Some
returns-in-Some c =
    let found : first (premise_parts (premise c.p-item.result)) ≡ Some c.in-Some.at = search rules in
    sym (sym c.loop-p.invariant ∙ splits_here (premises_at c.args.ps.now c.loop-p.p-index c.p-item.result c.p-item.is c.loop-p-test.true) found)

pub loop-p-preserved : goal.loop-p-preserved
loop-p-preserved c =
    let none : first (premise_parts (premise c.p-item.result)) ≡ None = search rules in
    sym (sym c.loop-p.invariant ∙ splits_later (premises_at c.args.ps.now c.loop-p.p-index c.p-item.result c.p-item.is c.loop-p-test.true) none)
