-- What is known after the call of a job.
use Rattle.std.proofs.Common.{◌≡◌, ◌∙◌, sym, ap, refl, subst, ℕ, ◌<◌, ◌≤◌, ◌+◌, ◌⊎◌, List, [], length, Option, Some, IfSome, arith, inl, inr}
use Rattle.ft_streams.specs.Streams.{Rose, Appends, AppendsPrefix, IsAtEnd}
use Rattle.ft_applications_meaning.specs.declared.syntax.Command.{Command}
use Rattle.ft_applications_meaning.specs.Events.{Event, events}
use Rattle.ft_applications_meaning.specs.Transcript.{IsPlainSource, IsTranscript, AllDerivable, shown_in, not_yet_line}
use Rattle.ft_answers.specs.declared.words.Job.{Job}
use Rattle.ft_answers.specs.declared.words.Job.TheVariants as job
use Rattle.ft_answers.specs.declared.status.Status.{Status}
use Rattle.ft_answers.specs.declared.status.Status.TheVariants as status
use Rattle.ft_answers.specs.Words.{IsAsked, limit, ReadsSource}
use Rattle.ft_answers.specs.Statuses.{IsStatus, IsOfInput, IsReadWhole, IsOverLimit, Ends, HasNoFault, read_line, too_long_line, line_for, number_of}
use Rattle.ft_answers.specs.Exports.{IsExport, BreaksOff}
use Rattle.ft_answers.specs.Answer.{IsText, IsAnswer, IsBroken}
use Rattle.ft_top.specs.Calls.{IsNotBuilt, ShowsDerivable, IsKnown, IsOfBytes, IsBegun, IsLeft, IsCall}
use Rattle.ft_top.proofs.Asking.{one_job}
use Rattle.ft_top.proofs.Numbers.{Excludes, excluded, of_file}

-- what is known of the bytes that are told
pub of_told : (P : List ℕ → Type 0) (o : Option (List ℕ)) (bs : List ℕ) → o ≡ Some bs → IfSome o P → P bs
of_told P o bs h p = subst (λ o. IfSome o P) h p

-- the status is one of the program's
pub has_status : {j : Job} {left rest : Option (List ℕ)} {taken taken' faults later : ℕ} {before after : Option (List ℕ)} {n : ℕ} → IsCall j left rest taken taken' faults later before after n → IsStatus n
has_status (IsCall.of_fault r (inl p)) = (status.ReadFault, p.0)
has_status (IsCall.of_fault r (inr p)) = (status.WriteFault, p.0)
has_status (IsCall.of_length o h (inl p)) = (status.TooLong, p.0)
has_status (IsCall.of_length o h (inr p)) = (status.WriteFault, p.0)
has_status (IsCall.of_another r e h (inl p)) = (status.Syntax, p.0)
has_status (IsCall.of_another r e h (inr p)) = (status.WriteFault, p.0)
has_status (IsCall.of_text s text i e h k w) = (s, k)
has_status (IsCall.of_break k h) = (status.WriteFault, k)
has_status (IsCall.of_memory k h) = (status.Memory, k)

-- it is that of other words never
pub no_usage : {j : Job} {left rest : Option (List ℕ)} {taken taken' faults later : ℕ} {before after : Option (List ℕ)} {n : ℕ} → IsCall j left rest taken taken' faults later before after n → n ≡ 2 → ⊥
no_usage (IsCall.of_fault r (inl p)) two = absurd (omega (arith, p.0, two))
no_usage (IsCall.of_fault r (inr p)) two = absurd (omega (arith, p.0, two))
no_usage (IsCall.of_length o h (inl p)) two = absurd (omega (arith, p.0, two))
no_usage (IsCall.of_length o h (inr p)) two = absurd (omega (arith, p.0, two))
no_usage (IsCall.of_another r e h (inl p)) two = absurd (omega (arith, p.0, two))
no_usage (IsCall.of_another r e h (inr p)) two = absurd (omega (arith, p.0, two))
no_usage (IsCall.of_text s text i e h k w) two = (excluded _ s i).usage (sym k ∙ two)
no_usage (IsCall.of_break k h) two = absurd (omega (arith, k, two))
no_usage (IsCall.of_memory k h) two = absurd (omega (arith, k, two))

-- a read failed
pub read_failed : {j : Job} {left rest : Option (List ℕ)} {taken taken' faults later : ℕ} {before after : Option (List ℕ)} {n : ℕ} → IsCall j left rest taken taken' faults later before after n → n ≡ 3 → Rose faults later × Appends before (line_for j read_line) after
read_failed (IsCall.of_fault r (inl p)) three = (r, p.1)
read_failed (IsCall.of_fault r (inr p)) three = absurd (omega (arith, p.0, three))
read_failed (IsCall.of_length o h (inl p)) three = absurd (omega (arith, p.0, three))
read_failed (IsCall.of_length o h (inr p)) three = absurd (omega (arith, p.0, three))
read_failed (IsCall.of_another r e h (inl p)) three = absurd (omega (arith, p.0, three))
read_failed (IsCall.of_another r e h (inr p)) three = absurd (omega (arith, p.0, three))
read_failed (IsCall.of_text s text i e h k w) three = absurd ((excluded _ s i).read (sym k ∙ three))
read_failed (IsCall.of_break k h) three = absurd (omega (arith, k, three))
read_failed (IsCall.of_memory k h) three = absurd (omega (arith, k, three))

-- the line is written, but by `export`
pub with_line : (words : List (List ℕ)) (j : Job) (line : List ℕ) (before after : Option (List ℕ)) → IsAsked words j → (IsAsked words job.Export → ⊥)
    → Appends before (line_for j line) after → Appends before line after
with_line words job.Run line before after asked other w = w
with_line words job.Export line before after asked other w = absurd (other asked)
with_line words job.Check line before after asked other w = w

-- the input is too long
pub too_long : {j : Job} {left rest : Option (List ℕ)} {taken taken' faults later : ℕ} {before after : Option (List ℕ)} {n : ℕ} → IsCall j left rest taken taken' faults later before after n → n ≡ 5 → IsOverLimit j taken taken'
too_long (IsCall.of_fault r (inl p)) five = absurd (omega (arith, p.0, five))
too_long (IsCall.of_fault r (inr p)) five = absurd (omega (arith, p.0, five))
too_long (IsCall.of_length o h e) five = o
too_long (IsCall.of_another r e h (inl p)) five = absurd (omega (arith, p.0, five))
too_long (IsCall.of_another r e h (inr p)) five = absurd (omega (arith, p.0, five))
too_long (IsCall.of_text s text i e h k w) five = absurd ((excluded _ s i).long (sym k ∙ five))
too_long (IsCall.of_break k h) five = absurd (omega (arith, k, five))
too_long (IsCall.of_memory k h) five = absurd (omega (arith, k, five))

-- how much was read
pub most_of : (words : List (List ℕ)) (j i : Job) (before after : ℕ) → IsAsked words j → IsAsked words i → after ≤ before + limit j + 1 → after ≤ before + limit i + 1
most_of words j i before after asked asked' h = subst (λ i. after ≤ before + limit i + 1) (one_job words j i asked asked') h

-- memory was refused
pub no_memory : {j : Job} {left rest : Option (List ℕ)} {taken taken' faults later : ℕ} {before after : Option (List ℕ)} {n : ℕ} → IsCall j left rest taken taken' faults later before after n → n ≡ 17 → IsLeft j left before after
no_memory (IsCall.of_fault r (inl p)) gone = absurd (omega (arith, p.0, gone))
no_memory (IsCall.of_fault r (inr p)) gone = absurd (omega (arith, p.0, gone))
no_memory (IsCall.of_length o h (inl p)) gone = absurd (omega (arith, p.0, gone))
no_memory (IsCall.of_length o h (inr p)) gone = absurd (omega (arith, p.0, gone))
no_memory (IsCall.of_another r e h (inl p)) gone = absurd (omega (arith, p.0, gone))
no_memory (IsCall.of_another r e h (inr p)) gone = absurd (omega (arith, p.0, gone))
no_memory (IsCall.of_text s text i e h k w) gone = absurd ((excluded _ s i).memory (sym k ∙ gone))
no_memory (IsCall.of_break k h) gone = absurd (omega (arith, k, gone))
no_memory (IsCall.of_memory k h) gone = h

pub nothing_left : (words : List (List ℕ)) (j : Job) (left before after : Option (List ℕ)) → IsAsked words j → (IsAsked words job.Export → ⊥) → IsLeft j left before after → after ≡ before
nothing_left words job.Run left before after asked other h = h
nothing_left words job.Export left before after asked other h = absurd (other asked)
nothing_left words job.Check left before after asked other h = h

broken_bytes : (left before after : Option (List ℕ)) (bs : List ℕ) → left ≡ Some bs → IsLeft job.Export left before after → (after ≡ before) ⊎ BreaksOff bs before after
broken_bytes left before after bs told (inl h) = inl h
broken_bytes left before after bs told (inr h) = inr (of_told (λ bytes. (length bytes ≤ limit job.Export) × BreaksOff bytes before after) left bs told h).1

pub broken_off : (words : List (List ℕ)) (j : Job) (left before after : Option (List ℕ)) (bs : List ℕ) → IsAsked words j → IsAsked words job.Export → left ≡ Some bs
    → IsLeft j left before after → (after ≡ before) ⊎ BreaksOff bs before after
broken_off words j left before after bs asked export told h =
    broken_bytes left before after bs told (subst (λ j. IsLeft j left before after) (one_job words j job.Export asked export) h)

-- the input was read whole
pub whole_end : {j : Job} {left rest : Option (List ℕ)} {taken taken' faults later : ℕ} {before after : Option (List ℕ)} {n : ℕ} → IsCall j left rest taken taken' faults later before after n → IsReadWhole n → IsAtEnd rest
whole_end (IsCall.of_fault r (inl p)) (j, s, i, k) = absurd ((excluded j s i).read (sym k ∙ p.0))
whole_end (IsCall.of_fault r (inr p)) (j, s, i, k) = absurd ((excluded j s i).write (sym k ∙ p.0))
whole_end (IsCall.of_length o h (inl p)) (j, s, i, k) = absurd ((excluded j s i).long (sym k ∙ p.0))
whole_end (IsCall.of_length o h (inr p)) (j, s, i, k) = absurd ((excluded j s i).write (sym k ∙ p.0))
whole_end (IsCall.of_another r e h x) w = e
whole_end (IsCall.of_text s text i e h k w) q = e
whole_end (IsCall.of_break b h) (j, s, i, k) = absurd ((excluded j s i).write (sym k ∙ b))
whole_end (IsCall.of_memory m h) (j, s, i, k) = absurd ((excluded j s i).memory (sym k ∙ m))

-- the text where the source is not built
pub another_text : (j : Job) (bs : List ℕ) → ReadsSource j → IsNotBuilt bs → IsText j bs (line_for j not_yet_line) 7
another_text job.Run bs r none = IsTranscript.of_another none
another_text job.Export bs r none = IsExport.of_another none
another_text job.Check bs r none = absurd r

-- what was written, or begun
abbrev pub Told : List (List ℕ) → List ℕ → ℕ → ℕ → ℕ → Option (List ℕ) → Option (List ℕ) → Type 0
Told words bs faults later n before after =
    ((text : List ℕ) × ((status : ℕ) × (IsAnswer words bs faults later text status × (n ≡ status) × Appends before text after)))
    ⊎ ((n ≡ 4) × IsBroken words bs faults later before after)

told_ends : (words : List (List ℕ)) (bs text : List ℕ) (faults later status n : ℕ) (before after : Option (List ℕ)) → IsAnswer words bs faults later text status
    → Ends text status n before after → Told words bs faults later n before after
told_ends words bs text faults later status n before after a (inl p) = inl (text, (status, (a, p.0, p.1)))
told_ends words bs text faults later status n before after a (inr p) = inr (p.0, IsBroken.of_answer text status a p.1)

begun_broken : (words : List (List ℕ)) (j : Job) (bs : List ℕ) (faults later : ℕ) (before after : Option (List ℕ)) → IsAsked words j → length bs ≤ limit j
    → IsBegun j bs before after → IsBroken words bs faults later before after
begun_broken words job.Run bs faults later before after asked within (text, status, t, front) =
    IsBroken.of_answer text status (IsAnswer.of_input job.Run asked within text status t) front
begun_broken words job.Export bs faults later before after asked within b = IsBroken.of_export asked within b
begun_broken words job.Check bs faults later before after asked within (text, status, t, front) =
    IsBroken.of_answer text status (IsAnswer.of_input job.Check asked within text status t) front

pub told_of : (words : List (List ℕ)) (bs : List ℕ) {j : Job} {left rest : Option (List ℕ)} {taken taken' faults later : ℕ} {before after : Option (List ℕ)} {n : ℕ} → IsAsked words j → left ≡ Some bs → IsCall j left rest taken taken' faults later before after n → (n ≡ 17) ⊎ Told words bs faults later n before after
told_of words bs {j = j} asked told (IsCall.of_fault r e) = inr (told_ends words bs _ _ _ _ _ _ _ (IsAnswer.of_fault j asked r) e)
told_of words bs {j = j} {left = left} asked told (IsCall.of_length o h e) =
    inr (told_ends words bs _ _ _ _ _ _ _ (IsAnswer.of_length j asked (of_told (λ bytes. limit j < length bytes) left bs told h)) e)
told_of words bs {j = j} {left = left} asked told (IsCall.of_another r q h e) =
    let known = of_told (λ bytes. (length bytes ≤ limit j) × IsNotBuilt bytes) left bs told h in
    inr (told_ends words bs _ _ _ _ _ _ _ (IsAnswer.of_input j asked known.0 (line_for j not_yet_line) 7 (another_text j bs r known.1)) e)
told_of words bs {j = j} {left = left} asked told (IsCall.of_text s text i e h k w) =
    let known = of_told (IsKnown j text s) left bs told h in
    inr (inl (text, (number_of s, (IsAnswer.of_input j asked known.0 text (number_of s) known.1, k, w))))
told_of words bs {j = j} {left = left} {faults = faults} {later = later} {before = before} {after = after} asked told (IsCall.of_break k h) =
    let known = of_told (λ bytes. (length bytes ≤ limit j) × IsBegun j bytes before after × (ReadsSource j → ShowsDerivable bytes)) left bs told h in
    inr (inr (k, begun_broken words j bs faults later before after asked known.0 known.1))
told_of words bs asked told (IsCall.of_memory k h) = inl k

-- what is written and answered for an input of a job, where no fault comes
abbrev pub Writes : Job → List ℕ → ℕ → Option (List ℕ) → Option (List ℕ) → Type 0
Writes j bs n before after = (text : List ℕ) × ((status : ℕ) × (IsText j bs text status × (n ≡ status) × Appends before text after))

writes_of : (bs : List ℕ) (given after' : ℕ) {j : Job} {left rest : Option (List ℕ)} {taken taken' faults later : ℕ} {before after : Option (List ℕ)} {n : ℕ} → left ≡ Some bs → length bs ≤ limit j → HasNoFault faults later → HasNoFault given after' → (n ≡ 4 → Rose given after')
    → IsCall j left rest taken taken' faults later before after n → (n ≡ 17) ⊎ Writes j bs n before after
writes_of bs given after' told within quiet calm rose (IsCall.of_fault r e) = absurd (quiet r)
writes_of bs given after' {j = j} {left = left} told within quiet calm rose (IsCall.of_length o h e) =
    let long : limit j < length bs = of_told (λ bytes. limit j < length bytes) left bs told h in absurd (omega (arith, long, within))
writes_of bs given after' {j = j} {left = left} told within quiet calm rose (IsCall.of_another r q h (inl p)) =
    let known = of_told (λ bytes. (length bytes ≤ limit j) × IsNotBuilt bytes) left bs told h in
    inr (line_for j not_yet_line, (7, (another_text j bs r known.1, p.0, p.1)))
writes_of bs given after' told within quiet calm rose (IsCall.of_another r q h (inr p)) = absurd (calm (rose p.0))
writes_of bs given after' {j = j} {left = left} told within quiet calm rose (IsCall.of_text s text i e h k w) =
    let known = of_told (IsKnown j text s) left bs told h in
    inr (text, (number_of s, (known.1, k, w)))
writes_of bs given after' told within quiet calm rose (IsCall.of_break k h) = absurd (calm (rose k))
writes_of bs given after' told within quiet calm rose (IsCall.of_memory k h) = inl k

pub exactly : (words : List (List ℕ)) (i : Job) (bs : List ℕ) (given after' : ℕ) {j : Job} {left rest : Option (List ℕ)} {taken taken' faults later : ℕ} {before after : Option (List ℕ)} {n : ℕ} → IsAsked words j → IsAsked words i → left ≡ Some bs → length bs ≤ limit i
    → HasNoFault faults later → HasNoFault given after' → (n ≡ 4 → Rose given after') → IsCall j left rest taken taken' faults later before after n → (n ≡ 17) ⊎ Writes i bs n before after
exactly words i bs given after' {j = j} {before = before} {after = after} {n = n} asked asked' told within quiet calm rose call =
    let same = one_job words j i asked asked' in
    subst (λ i. (n ≡ 17) ⊎ Writes i bs n before after) same (writes_of bs given after' told (subst (λ i. length bs ≤ limit i) (sym same) within) quiet calm rose call)

-- neither of two numbers
pub neither : {n m : ℕ} → (n ≡ 0) ⊎ (n ≡ 9) → n ≡ m → (m ≡ 0 → ⊥) → (m ≡ 9 → ⊥) → ⊥
neither (inl z) k a b = a (sym k ∙ z)
neither (inr z) k a b = b (sym k ∙ z)

-- what is shown where all was written
derived_of : (bs : List ℕ) {j : Job} {left rest : Option (List ℕ)} {taken taken' faults later : ℕ} {before after : Option (List ℕ)} {n : ℕ} → left ≡ Some bs → (n ≡ 0) ⊎ (n ≡ 9) → ReadsSource j → IsCall j left rest taken taken' faults later before after n → ShowsDerivable bs
derived_of bs told z reads (IsCall.of_fault r (inl p)) = absurd (neither z p.0 (λ e. absurd (omega (arith, e))) (λ e. absurd (omega (arith, e))))
derived_of bs told z reads (IsCall.of_fault r (inr p)) = absurd (neither z p.0 (λ e. absurd (omega (arith, e))) (λ e. absurd (omega (arith, e))))
derived_of bs told z reads (IsCall.of_length o h (inl p)) = absurd (neither z p.0 (λ e. absurd (omega (arith, e))) (λ e. absurd (omega (arith, e))))
derived_of bs told z reads (IsCall.of_length o h (inr p)) = absurd (neither z p.0 (λ e. absurd (omega (arith, e))) (λ e. absurd (omega (arith, e))))
derived_of bs {j = j} {left = left} told z reads (IsCall.of_another r q h e) =
    λ cs es s k. absurd ((of_told (λ bytes. (length bytes ≤ limit j) × IsNotBuilt bytes) left bs told h).1 cs es s k)
derived_of bs {j = j} {left = left} told z reads (IsCall.of_text s text i e h k w) =
    (of_told (IsKnown j text s) left bs told h).2 reads
derived_of bs {j = j} {left = left} {before = before} {after = after} told z reads (IsCall.of_break k h) =
    (of_told (λ bytes. (length bytes ≤ limit j) × IsBegun j bytes before after × (ReadsSource j → ShowsDerivable bytes)) left bs told h).2 reads
derived_of bs told z reads (IsCall.of_memory k h) = absurd (neither z k (λ e. absurd (omega (arith, e))) (λ e. absurd (omega (arith, e))))

pub derived : (words : List (List ℕ)) (i : Job) (bs : List ℕ) {j : Job} {left rest : Option (List ℕ)} {taken taken' faults later : ℕ} {before after : Option (List ℕ)} {n : ℕ} → IsAsked words j → (n ≡ 0) ⊎ (n ≡ 9) → ReadsSource i → IsAsked words i → left ≡ Some bs → IsCall j left rest taken taken' faults later before after n → ShowsDerivable bs
derived words i bs {j = j} asked z reads asked' told call = derived_of bs told z (subst ReadsSource (sym (one_job words j i asked asked')) reads) call

-- what is shown where a write failed
begun_of : (bs : List ℕ) {j : Job} {left rest : Option (List ℕ)} {taken taken' faults later : ℕ} {before after : Option (List ℕ)} {n : ℕ} → left ≡ Some bs → n ≡ 4 → ReadsSource j → length bs ≤ limit j → HasNoFault faults later → IsCall j left rest taken taken' faults later before after n → ShowsDerivable bs
begun_of bs told four reads within quiet (IsCall.of_fault r e) = absurd (quiet r)
begun_of bs {j = j} {left = left} told four reads within quiet (IsCall.of_length o h e) =
    let long : limit j < length bs = of_told (λ bytes. limit j < length bytes) left bs told h in absurd (omega (arith, long, within))
begun_of bs {j = j} {left = left} told four reads within quiet (IsCall.of_another r q h e) =
    λ cs es s k. absurd ((of_told (λ bytes. (length bytes ≤ limit j) × IsNotBuilt bytes) left bs told h).1 cs es s k)
begun_of bs {j = j} {left = left} told four reads within quiet (IsCall.of_text s text i e h k w) =
    (of_told (IsKnown j text s) left bs told h).2 reads
begun_of bs {j = j} {left = left} {before = before} {after = after} told four reads within quiet (IsCall.of_break k h) =
    (of_told (λ bytes. (length bytes ≤ limit j) × IsBegun j bytes before after × (ReadsSource j → ShowsDerivable bytes)) left bs told h).2 reads
begun_of bs told four reads within quiet (IsCall.of_memory k h) = absurd (omega (arith, k, four))

pub begun : (words : List (List ℕ)) (i : Job) (bs : List ℕ) {j : Job} {left rest : Option (List ℕ)} {taken taken' faults later : ℕ} {before after : Option (List ℕ)} {n : ℕ} → IsAsked words j → n ≡ 4 → ReadsSource i → IsAsked words i → left ≡ Some bs → length bs ≤ limit i → HasNoFault faults later
    → IsCall j left rest taken taken' faults later before after n → ShowsDerivable bs
begun words i bs {j = j} asked four reads asked' told within quiet call =
    let same = sym (one_job words j i asked asked') in
    begun_of bs told four (subst ReadsSource same reads) (subst (λ i. length bs ≤ limit i) same within) quiet call
