-- How the call of a job comes to its end.
use Rattle.std.proofs.Common.{◌≡◌, ◌∙◌, sym, ap, refl, subst, ℕ, ◌≤◌, ◌++◌, List, [], length, Option, Some, None, IfSome, encode_utf8_all, append-nil, inl, inr}
use Rattle.ft_common.proofs.Options.{none_some, one_value}
use Rattle.ft_base.specs.Names.{is_name_token}
use Rattle.ft_items.specs.Item.{Item}
use Rattle.ft_items.specs.Good.{counts}
use Rattle.ft_items.specs.Texts.{IsTextOf, text_of as file_of}
use Rattle.ft_sound.specs.Soundness.{GoodAreAccepted}
use Rattle.ft_streams.specs.Streams.{Appends, AppendsPrefix, IsAtEnd}
use Rattle.ft_applications.specs.declared.fault.Fault.{Fault}
use Rattle.ft_applications.specs.declared.fault.Fault.TheVariants as fault
use Rattle.ft_applications_meaning.specs.declared.syntax.Command.{Command}
use Rattle.ft_applications_meaning.specs.Events.{Event, events}
use Rattle.ft_applications_meaning.specs.Transcript.{IsPlainSource, IsTranscript, AllDerivable, shown_in, text_of, status_of, not_yet_line}
use Rattle.ft_applications_meaning.specs.Histories.{IsDerivationOf}
use Rattle.ft_run.specs.Steps.{AllOfApplications}
use Rattle.ft_run.specs.declared.session.Ending.{Ending}
use Rattle.ft_run.specs.declared.session.Ending.TheVariants as ending
use Rattle.ft_run.specs.Running.{ending_status}
use Rattle.ft_answers.specs.declared.words.Job.{Job}
use Rattle.ft_answers.specs.declared.words.Job.TheVariants as job
use Rattle.ft_answers.specs.declared.status.Status.{Status}
use Rattle.ft_answers.specs.declared.status.Status.TheVariants as status
use Rattle.ft_answers.specs.Words.{limit, ReadsSource}
use Rattle.ft_answers.specs.Statuses.{IsOfInput, Ends, read_line, too_long_line, line_for, line_of, number_of}
use Rattle.ft_top.specs.Causes.{IsCauseOfReading, status_of_running}
use Rattle.ft_verdicts.specs.Verdicts.{IsVerdict}
use Rattle.ft_answers.specs.Exports.{IsExport, BreaksOff}
use Rattle.ft_answers.specs.Answer.{IsText}
use Rattle.ft_top.specs.Calls.{IsNotBuilt, ShowsDerivable, IsRun, WritesFile, IsCause, IsKnown, IsOfBytes, IsBegun, IsLeft, IsCall}
use Rattle.ft_top.proofs.Bridge.{accepted_by_check}

-- what follows from what is known of the bytes
if_some : (P Q : List ℕ → Type 0) (o : Option (List ℕ)) → ((bs : List ℕ) → P bs → Q bs) → IfSome o P → IfSome o Q
if_some P Q None f h = tt
if_some P Q (Some bs) f h = f bs h

-- Runs.

-- what a run tells
abbrev pub Runs : List Command → List ℕ → List ℕ → List Item → ℕ → Type 0
Runs cs old out items status = (es : List Event) × (events [] cs ≡ Some es) × (out ≡ old ++ text_of es) × (status ≡ status_of es)
    × AllDerivable (shown_in es) × IsDerivationOf items es × AllOfApplications items

pub ran : (bs old out : List ℕ) (cs : List Command) (items : List Item) (status : ℕ) → IsPlainSource bs cs → old ≡ [] → Runs cs old out items status → IsRun bs out items status
ran bs old out cs items status s empty h = record {
  commands = cs;
  done = h.0;
  source = s;
  built = h.1;
  lines = h.2 ∙ ap (λ o. o ++ text_of h.0) empty;
  ending = h.3;
  derivation = h.5;
}

pub shows : (bs old out : List ℕ) (cs : List Command) (items : List Item) (status : ℕ) → ((ds : List Command) → IsPlainSource bs ds → ds ≡ cs) → Runs cs old out items status → ShowsDerivable bs
shows bs old out cs items status only h ds es s k =
    let same : es ≡ h.0 = one_value (events [] cs) es h.0 (subst (λ cs. events [] cs ≡ Some es) (only ds s) k) h.1 in
    subst (λ es. AllDerivable (shown_in es)) (sym same) h.4

pub not_read : (bs : List ℕ) → ((cs : List Command) → IsPlainSource bs cs → ⊥) → IsNotBuilt bs
not_read bs none = λ cs es s k. none cs s

pub not_built : (bs : List ℕ) (cs : List Command) → ((ds : List Command) → IsPlainSource bs ds → ds ≡ cs) → events [] cs ≡ None → IsNotBuilt bs
not_built bs cs only h = λ ds es s k. none_some (sym h ∙ subst (λ cs. events [] cs ≡ Some es) (only ds s) k)

-- a source that came in was run
abbrev pub RanInput : Job → Option (List ℕ) → List ℕ → List Item → ℕ → Type 0
RanInput j left text items status = IfSome left (λ bytes. (length bytes ≤ limit j) × IsRun bytes text items status × ShowsDerivable bytes)

pub ran_input : (j : Job) (left : Option (List ℕ)) (v text : List ℕ) (items : List Item) (status : ℕ) → IfSome left (λ bytes. bytes ≡ v) → length v ≤ limit j
    → IsRun v text items status → ShowsDerivable v → RanInput j left text items status
ran_input j left v text items status same within r d =
    if_some (λ bytes. bytes ≡ v) (λ bytes. (length bytes ≤ limit j) × IsRun bytes text items status × ShowsDerivable bytes) left
    (λ bs e. subst (λ bytes. (length bytes ≤ limit j) × IsRun bytes text items status × ShowsDerivable bytes) (sym e) (within, r, d)) same

-- why an input is not had
pub cause_of_reading : (j : Job) (left rest : Option (List ℕ)) (taken taken' faults later : ℕ) (s : Status) → IsCauseOfReading j left taken taken' faults later s
    → IsCause j left rest taken taken' faults later s
cause_of_reading j left rest taken taken' faults later status.ReadFault c = c
cause_of_reading j left rest taken taken' faults later status.TooLong c = c
cause_of_reading j left rest taken taken' faults later status.Memory c = c
cause_of_reading j left rest taken taken' faults later status.Syntax c = absurd c
cause_of_reading j left rest taken taken' faults later _ c = absurd c

-- why a source is not run
pub cause_of_running : (j : Job) (left rest : Option (List ℕ)) (taken taken' faults later : ℕ) (v : List ℕ) (f : Fault) → ReadsSource j → IsAtEnd rest → IfSome left (λ bytes. bytes ≡ v)
    → length v ≤ limit j → (f ≡ fault.NotYet → IsNotBuilt v) → IsCause j left rest taken taken' faults later (status_of_running f)
cause_of_running j left rest taken taken' faults later v fault.NotYet reads end same within none = (
  reads,
  end,
  if_some (λ bytes. bytes ≡ v) (λ bytes. (length bytes ≤ limit j) × IsNotBuilt bytes) left
      (λ bs e. subst (λ bytes. (length bytes ≤ limit j) × IsNotBuilt bytes) (sym e) (within, none refl)) same,
)
cause_of_running j left rest taken taken' faults later v fault.Memory reads end same within none = tt

transcript_of : (bs text : List ℕ) (items : List Item) (status : ℕ) → IsRun bs text items status → IsTranscript bs text status
transcript_of bs text items status r =
    subst (λ t. IsTranscript bs t status) (sym r.lines) (subst (λ n. IsTranscript bs (text_of r.done) n) (sym r.ending)
    (IsTranscript.of_commands r.commands r.done r.source r.built))

-- the transcript of what was run
pub run_text : (left : Option (List ℕ)) (text : List ℕ) (items : List Item) (s : Status) (status : ℕ) → number_of s ≡ status → RanInput job.Run left text items status → IsOfBytes job.Run left text s
run_text left text items s status number h =
    if_some (λ bytes. (length bytes ≤ limit job.Run) × IsRun bytes text items status × ShowsDerivable bytes)
    (IsKnown job.Run text s) left
    (λ bs k. (k.0, subst (λ n. IsTranscript bs text n) (sym number) (transcript_of bs text items status k.1), λ _. k.2, tt)) h

-- the verdict on a file
pub check_text : (left : Option (List ℕ)) (v text : List ℕ) (s : Status) → IfSome left (λ bytes. bytes ≡ v) → length v ≤ limit job.Check → IsVerdict is_name_token v text (number_of s) → IsOfBytes job.Check left text s
check_text left v text s same within h =
    if_some (λ bytes. bytes ≡ v) (IsKnown job.Check text s) left
    (λ bs e. subst (IsKnown job.Check text s) (sym e) (within, h, λ r. absurd r, tt)) same

-- Ends of a call.

-- where there is no text, and the job writes its lines
pub stopped : (j : Job) (left rest : Option (List ℕ)) (taken taken' faults later : ℕ) (before after : Option (List ℕ)) (n : ℕ) (s : Status)
    → ((line : List ℕ) → line ≡ line_for j line) → (after ≡ before → IsLeft j left before after)
    → IsCause j left rest taken taken' faults later s → Ends (line_of s) (number_of s) n before after → (number_of s ≡ 17 → n ≡ 17) → (n ≡ 17 → after ≡ before)
    → IsCall j left rest taken taken' faults later before after n
stopped j left rest taken taken' faults later before after n status.ReadFault lines leaves c e m w = IsCall.of_fault c (subst (λ line. Ends line 3 n before after) (lines read_line) e)
stopped j left rest taken taken' faults later before after n status.TooLong lines leaves c e m w = IsCall.of_length c.0 c.1 (subst (λ line. Ends line 5 n before after) (lines too_long_line) e)
stopped j left rest taken taken' faults later before after n status.Syntax lines leaves c e m w = IsCall.of_another c.0 c.1 c.2 (subst (λ line. Ends line 7 n before after) (lines not_yet_line) e)
stopped j left rest taken taken' faults later before after n status.Memory lines leaves c e m w = IsCall.of_memory (m refl) (leaves (w (m refl)))
stopped j left rest taken taken' faults later before after n _ lines leaves c e m w = absurd c

-- where there is one, which is written
pub finished : (j : Job) (left rest : Option (List ℕ)) (taken taken' faults later : ℕ) (before after : Option (List ℕ)) (n : ℕ) (s : Status) (text out : List ℕ)
    → ((bs text : List ℕ) (status : ℕ) → IsText j bs text status → AppendsPrefix before text after → IsBegun j bs before after)
    → IsOfInput j s → IsAtEnd rest → IsOfBytes j left text s → out ≡ text → Ends out (number_of s) n before after
    → IsCall j left rest taken taken' faults later before after n
finished j left rest taken taken' faults later before after n s text out begins i e h same (inl p) =
    IsCall.of_text s text i e h p.0 (subst (λ t. Appends before t after) same p.1)
finished j left rest taken taken' faults later before after n s text out begins i e h same (inr p) =
    IsCall.of_break p.0 (if_some (IsKnown j text s)
    (λ bytes. (length bytes ≤ limit j) × IsBegun j bytes before after × (ReadsSource j → ShowsDerivable bytes)) left
    (λ bs k. (k.0, begins bs text (number_of s) k.1 (subst (λ t. AppendsPrefix before t after) same p.1), k.2)) h)

pub begins_run : (before after : Option (List ℕ)) (bs text : List ℕ) (status : ℕ) → IsText job.Run bs text status → AppendsPrefix before text after → IsBegun job.Run bs before after
begins_run before after bs text status t p = (text, status, t, p)

pub begins_check : (before after : Option (List ℕ)) (bs text : List ℕ) (status : ℕ) → IsText job.Check bs text status → AppendsPrefix before text after → IsBegun job.Check bs before after
begins_check before after bs text status t p = (text, status, t, p)

appends_nothing : (w w' : Option (List ℕ)) → w' ≡ w → Appends w [] w'
appends_nothing None w' h = h
appends_nothing (Some w) w' h = h ∙ ap Some (sym (append-nil w))

-- where nothing is exported
pub not_exported : (left rest : Option (List ℕ)) (taken taken' faults later : ℕ) (before after : Option (List ℕ)) (n : ℕ) (s : Status)
    → IsCause job.Export left rest taken taken' faults later s → n ≡ number_of s → after ≡ before → IsCall job.Export left rest taken taken' faults later before after n
not_exported left rest taken taken' faults later before after n status.ReadFault c k w = IsCall.of_fault c (inl (k, appends_nothing before after w))
not_exported left rest taken taken' faults later before after n status.TooLong c k w = IsCall.of_length c.0 c.1 (inl (k, appends_nothing before after w))
not_exported left rest taken taken' faults later before after n status.Syntax c k w = IsCall.of_another c.0 c.1 c.2 (inl (k, appends_nothing before after w))
not_exported left rest taken taken' faults later before after n status.Memory c k w = IsCall.of_memory k (inl w)
not_exported left rest taken taken' faults later before after n _ c k w = absurd c

-- the status of a run that ended so
status_of_ending : (e : Ending) → (s : Status) × IsOfInput job.Export s × (number_of s ≡ ending_status e)
status_of_ending ending.Done = (status.Done, tt, refl)
status_of_ending ending.Twice = (status.Rule, tt, refl)

export_of : (bs text : List ℕ) (items : List Item) (status n : ℕ) → n ≡ status → IsRun bs text items status → IsTextOf is_name_token (encode_utf8_all (file_of items)) items
    → IsExport bs (encode_utf8_all (file_of items)) n
export_of bs text items status n same r t =
    subst (λ n. IsExport bs (encode_utf8_all (file_of items)) n) (sym (same ∙ r.ending))
    (IsExport.of_run r.commands r.done items (encode_utf8_all (file_of items)) r.source r.built r.derivation t)

breaks_off : (bs text : List ℕ) (items : List Item) (status : ℕ) (before after : Option (List ℕ)) → IsRun bs text items status → AppendsPrefix before (encode_utf8_all (file_of items)) after → BreaksOff bs before after
breaks_off bs text items status before after r p = record {
  commands = r.commands;
  done = r.done;
  items = items;
  source = r.source;
  built = r.built;
  derivation = r.derivation;
  front = p;
}

-- where the derivation is exported, or a beginning of it
pub exported : GoodAreAccepted → (left rest : Option (List ℕ)) (taken taken' faults later : ℕ) (before after : Option (List ℕ)) (n : ℕ) (text : List ℕ) (items : List Item) (e : Ending)
    → IsAtEnd rest → RanInput job.Export left text items (ending_status e) → WritesFile items (ending_status e) n before after
    → IsCall job.Export left rest taken taken' faults later before after n
exported good left rest taken taken' faults later before after n text items e end h (inl w) =
    let s = status_of_ending e in
    IsCall.of_text s.0 (encode_utf8_all (file_of items)) s.1 end
    (if_some (λ bytes. (length bytes ≤ limit job.Export) × IsRun bytes text items (ending_status e) × ShowsDerivable bytes)
    (IsKnown job.Export (encode_utf8_all (file_of items)) s.0) left
    (λ bs k. (
      k.0,
      export_of bs text items (ending_status e) (number_of s.0) s.2 k.1 w.1,
      λ _. k.2,
      (counts items, accepted_by_check good (encode_utf8_all (file_of items)) items w.1 k.1.derivation.good),
    )) h) (w.0 ∙ sym s.2) w.2
exported good left rest taken taken' faults later before after n text items e end h (inr (inl k, p)) =
    IsCall.of_break k (if_some (λ bytes. (length bytes ≤ limit job.Export) × IsRun bytes text items (ending_status e) × ShowsDerivable bytes)
    (λ bytes. (length bytes ≤ limit job.Export) × BreaksOff bytes before after × (ReadsSource job.Export → ShowsDerivable bytes)) left
    (λ bs q. (q.0, breaks_off bs text items (ending_status e) before after q.1 p, λ _. q.2)) h)
exported good left rest taken taken' faults later before after n text items e end h (inr (inr k, p)) =
    IsCall.of_memory k (inr (if_some (λ bytes. (length bytes ≤ limit job.Export) × IsRun bytes text items (ending_status e) × ShowsDerivable bytes)
    (λ bytes. (length bytes ≤ limit job.Export) × BreaksOff bytes before after) left
    (λ bs q. (q.0, breaks_off bs text items (ending_status e) before after q.1 p)) h))
