use Rattle.std.proofs.Common.{rules, ◌≡◌, ◌∙◌, [], sym, Some, None}
use Rattle.ft_meaning.specs.Trees.{form}
use Rattle.ft_meaning.specs.Stages.{parts}
use Rattle.ft_stages.specs.First.{first}
use Rattle.ft_stages.proofs.Firsts.{splits_here, splits_later}
use Rattle.ft_stages.proofs.Rows.{binders_at}
use Rattle.ft_stages.proofs.commands.in_binders.Goals as goal

pub returns-in-Some : goal.returns-in-Some
returns-in-Some c =
    let found : first (parts [] (form c.b-item.result.domain)) ≡ Some c.in-Some.at = search rules in
    sym (sym c.loop-b.invariant ∙ splits_here (binders_at c.args.bs.now c.loop-b.b-index c.b-item.result c.b-item.is c.loop-b-test.true) found)

pub loop-b-preserved : goal.loop-b-preserved
loop-b-preserved c =
    let none : first (parts [] (form c.b-item.result.domain)) ≡ None = search rules in
    sym (sym c.loop-b.invariant ∙ splits_later (binders_at c.args.bs.now c.loop-b.b-index c.b-item.result c.b-item.is c.loop-b-test.true) none)
