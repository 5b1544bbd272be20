-- What is written for the bytes of a source.
use Rattle.std.proofs.Common.{◌≡◌, ◌≢◌, ◌∙◌, ◌++◌, ℕ, List, [], map, ap, sym, subst, refl, Some, None, append_assoc}
use Rattle.std.specs.Prelude.{IfSome, Ok}
use Rattle.ft_meaning.specs.Texts.{Text}
use Rattle.ft_meaning.specs.Trees.{Command, command_of}
use Rattle.ft_meaning.specs.Events.{Event}
use Rattle.ft_meaning.specs.Sources.{Content, too_long, no_text, unexpected, too_nested, commands, HasContent}
use Rattle.ft_meaning.specs.Stages.{Stage, no_equality, first_unbuilt}
use Rattle.ft_meaning.specs.Typing.{first_scope}
use Rattle.ft_meaning.specs.Transcript.{Transcript, transcript_of, transcript_from, unless_unbuilt, preceded, over, start}
use Rattle.ft_grammar.specs.declared.syntax.Command.{Command as AnyCommand}
use Rattle.ft_source.specs.Contents.{HasFault, content_of}
use Rattle.ft_source.specs.declared.fault.SourceFault.{SourceFault}
use Rattle.ft_source.specs.declared.fault.SourceFault.TheVariants as cause
use Rattle.ft_whole_answers.specs.Statuses.{number_of}
use Rattle.ft_whole_answers.specs.declared.status.Status.{Status}
use Rattle.ft_whole_answers.specs.declared.status.Status.TheVariants as status
use Rattle.ft_program.specs.declared.commands.Run.{Run}
use Rattle.ft_program.specs.declared.whole.Written.{Written}
use Rattle.ft_program.specs.declared.commands.Step.TheVariants as step
use Rattle.ft_program.specs.Running.{ahead, StepsFrom, IsReady, IsTranscriptOf, Writes}

-- a source of this content
written : (bytes : Text) (budget : ℕ) (c : Content) (w : Written) → HasContent bytes c → w.text ≡ (transcript_of no_equality bytes budget c).text
    → number_of w.status ≡ (transcript_of no_equality bytes budget c).status → IsTranscriptOf bytes budget w
written bytes budget c w has text number = (transcript_of no_equality bytes budget c, (c, has, refl), (text, number))

-- a source without commands
pub fault_written : (bytes : Text) (budget : ℕ) (f : SourceFault) (w : Written) → f ≢ cause.Memory → HasFault bytes f
    → IfSome (content_of f) (λ c. (B : Stage) (budget : ℕ) → w.text ≡ (transcript_of B bytes budget c).text)
    → IfSome (content_of f) (λ c. (B : Stage) (source : Text) (budget : ℕ) → number_of w.status ≡ (transcript_of B source budget c).status)
    → IsTranscriptOf bytes budget w
fault_written bytes budget cause.TooLong w other has text number = written bytes budget too_long w has (text no_equality budget) (number no_equality bytes budget)
fault_written bytes budget (cause.NoText n) w other has text number = written bytes budget (no_text n) w has (text no_equality budget) (number no_equality bytes budget)
fault_written bytes budget (cause.Unexpected at) w other has text number = written bytes budget (unexpected at) w has (text no_equality budget) (number no_equality bytes budget)
fault_written bytes budget (cause.TooNested at) w other has text number = written bytes budget (too_nested at) w has (text no_equality budget) (number no_equality bytes budget)
fault_written bytes budget cause.Memory w other has text number = absurd (other refl)

-- a part is not built
pub not_yet_written : (bytes source : Text) (budget at : ℕ) (cs : List AnyCommand) (x : Text) (w : Written) → source ≡ bytes
    → HasContent source (commands (map command_of cs)) → Some at ≡ first_unbuilt no_equality (map command_of cs)
    → ((budget : ℕ) (cs : List Command) → x ≡ (unless_unbuilt source budget cs (Some at)).text) → w.text ≡ x → w.status ≡ status.Syntax
    → IsTranscriptOf bytes budget w
not_yet_written bytes source budget at cs x w same has unbuilt text wrote ended =
    subst (λ bytes. IsTranscriptOf bytes budget w) same (
      transcript_of no_equality source budget (commands (map command_of cs)),
      (commands (map command_of cs), has, refl),
      (
        wrote ∙ text budget (map command_of cs) ∙ ap (λ o. (unless_unbuilt source budget (map command_of cs) o).text) unbuilt,
        ap number_of ended ∙ ap (λ o. (unless_unbuilt source budget (map command_of cs) o).status) unbuilt,
      ),
    )

-- all is built
pub all_written : (bytes source : Text) (budget : ℕ) (cs : List AnyCommand) (w : Written) → source ≡ bytes
    → HasContent source (commands (map command_of cs)) → None ≡ first_unbuilt no_equality (map command_of cs)
    → Writes w (transcript_from source (map command_of cs) first_scope [] (start budget))
    → IsTranscriptOf bytes budget w
all_written bytes source budget cs w same has built wrote =
    subst (λ bytes. IsTranscriptOf bytes budget w) same (
      transcript_of no_equality source budget (commands (map command_of cs)),
      (commands (map command_of cs), has, refl),
      subst (λ o. Writes w (unless_unbuilt source budget (map command_of cs) o)) built wrote,
    )

-- ---- steps in a row

-- what was written before and what is still to come are the whole transcript
pub record Goes (source : Text) (whole : Transcript) (text : Text) (r : Run) : Type 0 where
  pub ready : IsReady r
  pub lines : whole.text ≡ text ++ (ahead source r).text
  pub status : whole.status ≡ (ahead source r).status

pub goes_on : (source : Text) (whole : Transcript) (text more x : Text) (r q : Run) (es : List Event) → Goes source whole text r → IsReady q
    → ahead source r ≡ preceded x es (ahead source q) → more ≡ text ++ x → Goes source whole more q
goes_on source whole text more x r q es h ready step is = record {
  ready = ready;
  lines = h.lines ∙ ap (λ (t : Transcript). text ++ t.text) step ∙ sym (append_assoc text x (ahead source q).text) ∙ ap (λ y. y ++ (ahead source q).text) (sym is);
  status = h.status ∙ ap (λ (t : Transcript). t.status) step;
}

pub goes_over : (source : Text) (whole : Transcript) (text x : Text) (r : Run) (st : Status) (n : ℕ) (w : Written) → Goes source whole text r
    → ahead source r ≡ over x (number_of st) n → w.text ≡ text ++ x → w.status ≡ st → Writes w whole
goes_over source whole text x r st n w h step wrote ended = (
  wrote ∙ ap (λ (t : Transcript). text ++ t.text) (sym step) ∙ sym h.lines,
  ap number_of ended ∙ ap (λ (t : Transcript). t.status) (sym step) ∙ sym h.status,
)

pub goes_first : (source : Text) (whole : Transcript) (text : Text) (r : Run) → IsReady r → ahead source r ≡ whole → text ≡ [] → Goes source whole text r
goes_first source whole text r ready is empty = record {
  ready = ready;
  lines = ap (λ (t : Transcript). t.text) (sym is) ∙ ap (λ x. x ++ (ahead source r).text) (sym empty);
  status = ap (λ (t : Transcript). t.status) (sym is);
}

pub goes_step : (source : Text) (whole : Transcript) (text more x : Text) (r q : Run) → Goes source whole text r
    → StepsFrom source (ahead source r) r.state.list (Ok (step.Lines x)) q → more ≡ text ++ x → Goes source whole more q
goes_step source whole text more x r q h told is = goes_on source whole text more x r q told.0 h told.3 told.1 is
