use Rattle.std.proofs.Common.{rules, ◌≡◌, ◌∙◌, sym, Some, None}
use Rattle.ft_meaning.specs.Trees.{command_of}
use Rattle.ft_meaning.specs.Stages.{command_parts}
use Rattle.ft_stages.specs.First.{first}
use Rattle.ft_stages.proofs.Firsts.{splits_here, splits_later}
use Rattle.ft_stages.proofs.Rows.{commands_at}
use Rattle.ft_stages.proofs.commands.first_unbuilt.Goals as goal

pub returns-in-Some : goal.returns-in-Some
returns-in-Some c =
    let found : first (command_parts (command_of c.c-item.result)) ≡ Some c.in-Some.at = search rules in
    sym (sym c.loop-c.invariant ∙ splits_here (commands_at c.args.commands.now c.loop-c.c-index c.c-item.result c.c-item.is c.loop-c-test.true) found)

pub loop-c-preserved : goal.loop-c-preserved
loop-c-preserved c =
    let none : first (command_parts (command_of c.c-item.result)) ≡ None = search rules in
    sym (sym c.loop-c.invariant ∙ splits_later (commands_at c.args.commands.now c.loop-c.c-index c.c-item.result c.c-item.is c.loop-c-test.true) none)
