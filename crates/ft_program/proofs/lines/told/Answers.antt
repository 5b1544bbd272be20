use Rattle.std.proofs.Common.{◌≡◌, sym, subst, Some}
use Rattle.std.specs.Prelude.{All, option_map}
use Rattle.ft_items.specs.Store.{declared_by, each}
use Rattle.ft_kernel.specs.State.{IsThesisOf, entry_at}
use Rattle.ft_meaning.specs.Commands as command
use Rattle.ft_meaning.specs.Lines.{done_lines}
use Rattle.ft_running.specs.Evaluation.{Evaluation}
use Rattle.ft_commands.specs.Doing.{shown_by}
use Rattle.ft_commands.specs.declared.done.Done.TheVariants as done
use Rattle.ft_program.specs.declared.commands.Step.TheVariants as step
use Rattle.ft_program.specs.Running.{IsTold}
use Rattle.ft_program.proofs.Telling.{accepted_told, shown_told, none_told, all_theses}
use Rattle.ft_program.proofs.lines.told.Goals as goal

pub sequent_lines-requires : goal.sequent_lines-requires
sequent_lines-requires c =
    subst (λ xs. All (IsThesisOf c.state.inside.kernel) xs) (sym c.as_slice.ensures.value)
    (subst (λ (e : Evaluation). All (IsThesisOf e.list) c.in-Shown.js.items) (sym c.state.view_is)
    (subst (λ d. All (IsThesisOf c.args.state.now.list) (shown_by d)) c.in-Shown.is (all_theses c.args.state.now c.args.done.now c.requires)))

pub returns-in_ok-accepted_line-in-Accepted : goal.returns-in_ok-accepted_line-in-Accepted
returns-in_ok-accepted_line-in-Accepted c =
    subst (λ d. IsTold c.args.state.now d (step.Lines c.in_ok-accepted_line-in-Accepted.field-0)) (sym c.in-Accepted.is)
    (accepted_told c.args.state.now c.in-Accepted.name c.in_ok-accepted_line-in-Accepted.field-0 c.in_ok-accepted_line-in-Accepted.ensures)

pub returns-in_ok-sequent_lines-in-Shown : goal.returns-in_ok-sequent_lines-in-Shown
returns-in_ok-sequent_lines-in-Shown c =
    let x = c.in_ok-sequent_lines-in-Shown.field-0 in
    subst (λ d. IsTold c.args.state.now d (step.Lines x)) (sym c.in-Shown.is)
    (shown_told c.args.state.now (done.Shown c.in-Shown.js) x tt
    (subst (λ (e : Evaluation). Some x ≡ option_map (λ entries. done_lines (declared_by e.list.items) (command.Shown entries)) (each (entry_at e.list) c.in-Shown.js.items)) c.state.view_is
    (subst (λ xs. Some x ≡ option_map (λ entries. done_lines (declared_by c.state.inside.kernel.items) (command.Shown entries)) (each (entry_at c.state.inside.kernel) xs)) c.as_slice.ensures.value
    c.in_ok-sequent_lines-in-Shown.ensures)))

pub returns-in_ok-none_line-in-ShownNone : goal.returns-in_ok-none_line-in-ShownNone
returns-in_ok-none_line-in-ShownNone c =
    subst (λ d. IsTold c.args.state.now d (step.Lines c.in_ok-none_line-in-ShownNone.field-0)) (sym c.in-ShownNone.is)
    (none_told c.args.state.now c.in_ok-none_line-in-ShownNone.field-0 c.in_ok-none_line-in-ShownNone.ensures)
