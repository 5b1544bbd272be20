use Rattle.std.proofs.Common.{refl, subst}
use Rattle.std.specs.Prelude.{option_map, IfSome}
use Rattle.ft_apply.specs.Named.{AreThesesOf}
use Rattle.ft_running.specs.Evaluation.{value_over}
use Rattle.ft_running.specs.Readers.{HasJudgements}
use Rattle.ft_commands.specs.declared.done.Done.TheVariants as done
use Rattle.ft_commands.proofs.Shown.{list_shown}
use Rattle.ft_commands.proofs.showing.listed.Goals as goal

pub returns-in-Ok-Some : goal.returns-in-Ok-Some
returns-in-Ok-Some c =
    list_shown c.args.state.now (value_over c.args.state.now c.args.v) (done.Shown c.in-Ok-Some.js)
    (subst (λ o. HasJudgements c.args.state.now (value_over c.args.state.now c.args.v) (option_map (λ js. js.items) o)) c.in-Ok-Some.field-0-is c.in-Ok-Some.ensures.means)
    (subst (λ o. IfSome o (λ js. AreThesesOf c.args.state.now.list js.items)) c.in-Ok-Some.field-0-is c.in-Ok-Some.ensures.theses)
    refl
