-- Transcripts: none is stuck, they go on with further commands, and stages agree.
use Rattle.std.proofs.Common.{◌≡◌, ◌≢◌, ℕ, Option, Some, None, List, [], ◌∷◌, ◌++◌, Result, Ok, Err, refl, sym, ap, ◌∙◌, append_assoc, append-nil, arith}
use Rattle.ft_meaning.specs.Trees.{Command}
use Rattle.ft_meaning.specs.Values.{Environment, State, Fault, Unhandled, Refused, NoMatch, OfRule, OfShape, Halt, fails, spent, stuck}
use Rattle.ft_meaning.specs.Commands.{Done, run_command}
use Rattle.ft_meaning.specs.Typing.{TypeFault, Scope, first_scope}
use Rattle.ft_meaning.specs.CommandTyping.{scope_after}
use Rattle.ft_meaning.specs.Texts.{Text}
use Rattle.ft_meaning.specs.Faults.{fault_status}
use Rattle.ft_meaning.specs.Lines.{done_lines}
use Rattle.ft_meaning.specs.Events.{Event, events_of}
use Rattle.ft_meaning.specs.Stages.{Stage, SourcePart, all_built, source_parts, first_not_built, first_unbuilt}
use Rattle.ft_meaning.specs.Sources.{Content, too_long, no_text, unexpected, too_nested, commands}
use Rattle.ft_meaning.specs.Transcript.{Transcript, preceded, stuck_status, after_command, after_typing, transcript_from, start, unless_unbuilt, transcript_of}
use Rattle.ft_meaning_laws.specs.Fits.{Fits, Leaves}
use Rattle.ft_meaning_laws.specs.Runs.{NeverStuck, Begins, LinesGoOn, RunsEnd, StagesAgree}
use Rattle.ft_meaning_laws.proofs.SafeRuns.{typed_commands_fit, first_state_fits}

-- what a command leaves
abbrev Left : Type 0
Left = Result (Done × Environment) Halt × State

-- no run is stuck
abbrev NotStuck : Transcript → Type 0
NotStuck t = t.status ≢ stuck_status

fault_not_stuck : (why : Fault) → fault_status why ≢ stuck_status
fault_not_stuck (OfRule w) = λ e. omega arith
fault_not_stuck (Unhandled op) = λ e. omega arith
fault_not_stuck (Refused r) = λ e. omega arith
fault_not_stuck NoMatch = λ e. omega arith
fault_not_stuck (OfShape w) = λ e. omega arith

commands_not_stuck : (source : Text) (cs : List Command) (scope : Scope) (G : Environment) (s : State) → Fits scope G s → NotStuck (transcript_from source cs scope G s)
commands_not_stuck source [] scope G s f = λ e. omega arith
commands_not_stuck source (c ∷ cs) scope G s f = typed (scope_after c scope) refl (commands_not_stuck source cs)
  where
    Further : Type 0
    Further = (further : Scope) (H : Environment) (t : State) → Fits further H t → NotStuck (transcript_from source cs further H t)

    ran : (further : Scope) (o : Left) → Leaves scope further G o → Further → NotStuck (after_command source c o (transcript_from source cs further))
    ran further (Ok d, t) k ih = ih further d.1 t k
    ran further (Err (fails why at), t) k ih = fault_not_stuck why
    ran further (Err (spent at), t) k ih = λ e. omega arith
    ran further (Err stuck, t) k ih = absurd k

    typed : (r : Result Scope TypeFault) → scope_after c scope ≡ r → Further → NotStuck (after_typing source r s.units.used (λ further. after_command source c (run_command c G s) (transcript_from source cs further)))
    typed (Ok further) e ih = ran further (run_command c G s) (typed_commands_fit c scope further G s f e) ih
    typed (Err w) e ih = λ q. omega arith

content_not_stuck : (B : Stage) (source : Text) (budget : ℕ) (content : Content) → NotStuck (transcript_of B source budget content)
content_not_stuck B source budget too_long = λ e. omega arith
content_not_stuck B source budget (no_text n) = λ e. omega arith
content_not_stuck B source budget (unexpected at) = λ e. omega arith
content_not_stuck B source budget (too_nested at) = λ e. omega arith
content_not_stuck B source budget (commands cs) = go (first_unbuilt B cs)
  where
    go : (o : Option ℕ) → NotStuck (unless_unbuilt source budget cs o)
    go None = commands_not_stuck source cs first_scope [] (start budget) (first_state_fits budget)
    go (Some at) = λ e. omega arith

pub never_stuck : NeverStuck
never_stuck B source budget t h = λ e. content_not_stuck B source budget h.0 (sym (ap (λ (z : Transcript). z.status) h.2) ∙ e)

-- going on
same : (t : Transcript) → Begins t t
same t = record { text = []; lines = sym (append-nil t.text); further = []; events = sym (append-nil t.events) }

both_preceded : (x : Text) (es : List Event) (t u : Transcript) → Begins t u → Begins (preceded x es t) (preceded x es u)
both_preceded x es t u b = record {
  text = b.text;
  lines = ap (λ z. x ++ z) b.lines ∙ sym (append_assoc x t.text b.text);
  further = b.further;
  events = ap (λ z. es ++ z) b.events ∙ sym (append_assoc es t.events b.further);
}

pub lines_go_on : LinesGoOn
lines_go_on source [] ds scope G s = record { text = (transcript_from source ds scope G s).text; lines = refl; further = (transcript_from source ds scope G s).events; events = refl }
lines_go_on source (c ∷ cs) ds scope G s = typed (scope_after c scope) (lines_go_on source cs ds)
  where
    Further : Type 0
    Further = (further : Scope) (H : Environment) (t : State) → Begins (transcript_from source cs further H t) (transcript_from source (cs ++ ds) further H t)

    ran : (further : Scope) (o : Left) → Further → Begins (after_command source c o (transcript_from source cs further)) (after_command source c o (transcript_from source (cs ++ ds) further))
    ran further (Ok d, t) ih = both_preceded (done_lines t.declarations d.0) (events_of t.declarations d.0) (transcript_from source cs further d.1 t) (transcript_from source (cs ++ ds) further d.1 t) (ih further d.1 t)
    ran further (Err h, t) ih = same (after_command source c (Err h, t) (transcript_from source cs further))

    typed : (r : Result Scope TypeFault) → Further
        → Begins (after_typing source r s.units.used (λ further. after_command source c (run_command c G s) (transcript_from source cs further)))
        (after_typing source r s.units.used (λ further. after_command source c (run_command c G s) (transcript_from source (cs ++ ds) further)))
    typed (Ok further) ih = ran further (run_command c G s) ih
    typed (Err w) ih = same (after_typing source (Err w) s.units.used (λ further. after_command source c (run_command c G s) (transcript_from source cs further)))

-- the end of a run
pub runs_end : RunsEnd
runs_end source [] ds scope G s h = absurd (h refl)
runs_end source (c ∷ cs) ds scope G s h = typed (scope_after c scope) h (runs_end source cs ds)
  where
    Further : Type 0
    Further = (further : Scope) (H : Environment) (t : State) → (transcript_from source cs further H t).status ≢ 0 → transcript_from source (cs ++ ds) further H t ≡ transcript_from source cs further H t

    ran : (further : Scope) (o : Left) → (after_command source c o (transcript_from source cs further)).status ≢ 0 → Further → after_command source c o (transcript_from source (cs ++ ds) further) ≡ after_command source c o (transcript_from source cs further)
    ran further (Ok d, t) h ih = ap (preceded (done_lines t.declarations d.0) (events_of t.declarations d.0)) (ih further d.1 t h)
    ran further (Err x, t) h ih = refl

    typed : (r : Result Scope TypeFault) → (after_typing source r s.units.used (λ further. after_command source c (run_command c G s) (transcript_from source cs further))).status ≢ 0 → Further
        → after_typing source r s.units.used (λ further. after_command source c (run_command c G s) (transcript_from source (cs ++ ds) further))
        ≡ after_typing source r s.units.used (λ further. after_command source c (run_command c G s) (transcript_from source cs further))
    typed (Ok further) h ih = ran further (run_command c G s) h ih
    typed (Err w) h ih = refl

-- stages
all_is_built : (ps : List SourcePart) → first_not_built all_built ps ≡ None
all_is_built [] = refl
all_is_built (p ∷ ps) = all_is_built ps

pub stages_agree : StagesAgree
stages_agree B source budget cs h = ap (unless_unbuilt source budget cs) h ∙ sym (ap (unless_unbuilt source budget cs) (all_is_built (source_parts cs)))
