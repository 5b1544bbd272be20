use Rattle.std.proofs.Common.{◌∙◌, ℕ, ap, sym, refl, [], map}
use Rattle.ft_meaning.specs.Trees.{command_of}
use Rattle.ft_meaning.specs.Typing.{first_scope}
use Rattle.ft_meaning.specs.Stages.{no_equality, first_unbuilt}
use Rattle.ft_meaning.specs.Transcript.{transcript_from, start}
use Rattle.ft_whole_answers.specs.declared.status.Status.TheVariants as status
use Rattle.ft_program.specs.Running.{IsTranscriptOf, Writes}
use Rattle.ft_program.proofs.Halting.{ok_map}
use Rattle.ft_program.proofs.Wholes.{all_written, not_yet_written}
use Rattle.ft_program.proofs.whole.run.Goals as goal

pub returns-in-Err : goal.returns-in-Err
returns-in-Err c =
    ok_map c.unread.result (λ w. (budget : ℕ) → IsTranscriptOf c.args.bytes.now budget w) (λ w. IsTranscriptOf c.args.bytes.now c.args.budget w)
    (λ w h. h c.args.budget) c.unread.ensures

pub returns-in-Err-commands_of : goal.returns-in-Err-commands_of
returns-in-Err-commands_of c =
    ok_map c.unread-in-Err-commands_of.result (λ w. (budget : ℕ) → IsTranscriptOf c.args.bytes.now budget w) (λ w. IsTranscriptOf c.args.bytes.now c.args.budget w)
    (λ w h. h c.args.budget) c.unread-in-Err-commands_of.ensures

pub returns-in-None : goal.returns-in-None
returns-in-None c =
    let cs = c.in-Ok-commands_of.commands.items in
    ok_map c.run_all.result (λ w. Writes w (transcript_from c.in-Ok.source.now (map command_of cs) first_scope [] (start c.args.budget))) (λ w. IsTranscriptOf c.args.bytes.now c.args.budget w)
    (λ w h. all_written c.args.bytes.now c.in-Ok.source.now c.args.budget cs w c.in-Ok.ensures.same c.in-Ok-commands_of.ensures.commands
    (sym c.in-None.is ∙ c.first_unbuilt.ensures ∙ ap (λ xs. first_unbuilt no_equality (map command_of xs)) c.as_slice.ensures.value) h)
    c.run_all.ensures

pub returns-in_ok-not_yet_line-in-Some : goal.returns-in_ok-not_yet_line-in-Some
returns-in_ok-not_yet_line-in-Some c =
    let cs = c.in-Ok-commands_of.commands.items in
    not_yet_written c.args.bytes.now c.in-Ok.source.now c.args.budget c.in-Some.at cs c.in_ok-not_yet_line-in-Some.field-0
    (record { text = c.in_ok-not_yet_line-in-Some.field-0; status = status.Syntax }) c.in-Ok.ensures.same c.in-Ok-commands_of.ensures.commands
    (sym c.in-Some.is ∙ c.first_unbuilt.ensures ∙ ap (λ xs. first_unbuilt no_equality (map command_of xs)) c.as_slice.ensures.value)
    c.in_ok-not_yet_line-in-Some.ensures refl refl
